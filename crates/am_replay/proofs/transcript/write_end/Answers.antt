use Rattle.std.proofs.Common.{◌≡◌, ◌∙◌, ◌++◌, ◌∷◌, [], List, OnOk, ap, codes, string_bytes, subst}
use Rattle.json.specs.Json.{object, string}
use Rattle.json.specs.Print.{print}
use Rattle.json.specs.Token.{Token, end_object}
use Rattle.json.specs.Tree.{json_tokens}
use Rattle.am_script.specs.JsonLines.{named, decimal_json}
use Rattle.am_replay.specs.Printing.{counts_members}
use Rattle.am_script.proofs.JsonLines.{and_then}
use Rattle.am_replay.proofs.transcript.write_end.Goals as goal

pub returns : goal.returns
returns c =
    let part-0 : List Token = named (codes "answer") (string (codes "end")) in
    let part-1 : List Token = named (codes "places") (decimal_json c.args.counts.places) in
    let part-2 : List Token = named (codes "posts") (decimal_json c.args.counts.posts) in
    let part-3 : List Token = named (codes "stored") (decimal_json c.args.counts.stored) in
    let all : c.number-3.new.self ++ end_object ∷ [] ≡ json_tokens (object (counts_members c.args.counts)) =
    and_then c.number-2.new.self c.number-3.new.self part-3 _ c.in_ok-number-3.ensures
    ∙ (and_then c.number.new.self c.number-2.new.self part-2 _ c.in_ok-number-2.ensures
    ∙ (and_then c.text.new.self c.number.new.self part-1 _ c.in_ok-number.ensures
    ∙ (and_then c.in_ok-line.line c.text.new.self part-0 _ c.in_ok-text.ensures
    ∙ (ap (λ (tokens : List Token). tokens ++ (part-0 ++ (part-1 ++ (part-2 ++ (part-3 ++ (end_object ∷ [])))))) c.in_ok-line.ensures)))) in
    subst (λ (tokens : List Token). OnOk c.end.result (string_bytes c.end.new.text ≡ string_bytes c.args.text.now ++ (print tokens ++ 10 ∷ []))) all c.end.ensures
