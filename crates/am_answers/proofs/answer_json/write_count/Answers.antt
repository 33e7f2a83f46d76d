use Rattle.std.proofs.Common.{rules, ◌≡◌, ◌++◌, ◌∷◌, [], List, OnOk, string_bytes, subst}
use Rattle.json.specs.Print.{print}
use Rattle.json.specs.Token.{Token, end_object}
use Rattle.json.specs.Tree.{json_tokens}
use Rattle.am_script.specs.JsonLines.{about_line}
use Rattle.am_answers.specs.PrintingJson.{count_members}
use Rattle.am_answers.proofs.answer_json.write_count.Goals as goal

pub returns : goal.returns
returns c =
    let whole : c.number.new.self ++ end_object ∷ [] ≡ json_tokens (about_line c.args.number (count_members c.args.answers)) = search rules in
    subst (λ (tokens : List Token). OnOk c.end.result (string_bytes c.end.new.text ≡ string_bytes c.args.text.now ++ (print tokens ++ 10 ∷ []))) whole c.end.ensures
