use Rattle.std.proofs.Common.{◌≡◌, ◌∙◌, ◌++◌, ◌∷◌, [], List, OnOk, codes, string_bytes, ap, append_assoc, subst}
use Rattle.json.specs.Json.{member}
use Rattle.json.specs.Print.{print}
use Rattle.json.specs.Token.{Token, end_object}
use Rattle.json.specs.Tree.{json_tokens, members_tokens}
use Rattle.am_script.specs.JsonLines.{about_line, named, decimal_json}
use Rattle.am_answers.specs.Showing.{kept_members, run_members}
use Rattle.am_answers.proofs.showing.write_kept_run.Goals as goal

pub returns : goal.returns
returns c =
    let run = run_members c.args.from c.args.count in
    let all : c.add_run.new.line ++ end_object ∷ [] ≡ json_tokens (about_line c.args.number (kept_members c.args.index c.args.from c.args.count)) =
    c.in_ok-add_run.ensures ∙ (ap (λ (tokens : List Token). tokens ++ members_tokens run) c.in_ok-number.ensures
    ∙ (append_assoc c.in_ok-line.line (named (codes "index") (decimal_json c.args.index)) (members_tokens run) ∙ c.in_ok-line.ensures (member (codes "index") (decimal_json c.args.index) run))) in
    subst (λ (tokens : List Token). OnOk c.end.result (string_bytes c.end.new.text ≡ string_bytes c.args.text.now ++ (print tokens ++ 10 ∷ []))) all c.end.ensures
