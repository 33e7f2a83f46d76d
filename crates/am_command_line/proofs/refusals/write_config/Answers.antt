use Rattle.std.proofs.Common.{◌≡◌, ◌∙◌, ◌++◌, ◌∷◌, [], List, OnOk, ap, codes, string_bytes, subst}
use Rattle.json.specs.Json.{object, string}
use Rattle.json.specs.Print.{print}
use Rattle.json.specs.Token.{Token, end_object}
use Rattle.json.specs.Tree.{json_tokens}
use Rattle.am_command_line.specs.ConfigCodes.{config_code}
use Rattle.am_script.specs.JsonLines.{named, refusing}
use Rattle.am_script.proofs.JsonLines.{and_then}
use Rattle.am_command_line.proofs.refusals.write_config.Goals as goal

pub returns : goal.returns
returns c =
    let part-0 : List Token = named (codes "answer") (string (codes "refused")) in
    let part-1 : List Token = named (codes "do") (string (codes "config")) in
    let part-2 : List Token = named (codes "fault") (string (config_code c.args.fault)) in
    let all : c.shown.new.self ++ end_object ∷ [] ≡ json_tokens (object (refusing (codes "config") (config_code c.args.fault))) =
    and_then c.text-2.new.self c.shown.new.self part-2 _ c.in_ok-shown.ensures
    ∙ (and_then c.text.new.self c.text-2.new.self part-1 _ c.in_ok-text-2.ensures
    ∙ (and_then c.in_ok-line.line c.text.new.self part-0 _ c.in_ok-text.ensures
    ∙ ap (λ (tokens : List Token). tokens ++ (part-0 ++ (part-1 ++ (part-2 ++ end_object ∷ [])))) c.in_ok-line.ensures)) in
    subst (λ (tokens : List Token). OnOk c.end.result (string_bytes c.end.new.text ≡ string_bytes c.args.text.now ++ (print tokens ++ 10 ∷ []))) all c.end.ensures
