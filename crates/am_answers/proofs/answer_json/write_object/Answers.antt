use Rattle.std.proofs.Common.{◌≡◌, ◌∙◌, ◌++◌, ◌∷◌, [], List, OnOk, ap, string_bytes, subst}
use Rattle.json.specs.Print.{print}
use Rattle.json.specs.Token.{Token, end_object}
use Rattle.json.specs.Tree.{json_tokens, members_tokens}
use Rattle.am_script.specs.JsonLines.{about_line}
use Rattle.am_answers.specs.PrintingJson.{answer_members}
use Rattle.am_answers.proofs.answer_json.write_object.Goals as goal

pub returns : goal.returns
returns c =
    let members = answer_members c.args.answer.now in
    let whole : c.write_members.new.line ++ end_object ∷ [] ≡ json_tokens (about_line c.args.number members) =
    c.in_ok-write_members.ensures ∙ ap (λ (tokens : List Token). tokens ++ members_tokens members) c.in_ok-line.ensures in
    subst (λ (tokens : List Token). OnOk c.end.result (string_bytes c.end.new.text ≡ string_bytes c.args.text.now ++ (print tokens ++ 10 ∷ []))) whole c.end.ensures
