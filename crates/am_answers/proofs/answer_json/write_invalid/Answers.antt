use Rattle.std.proofs.Common.{rules, ◌≡◌, ◌∙◌, ◌++◌, ◌∷◌, [], List, codes}
use Rattle.std.proofs.lemmas.Result.{IfOk-weaker}
use Rattle.json.specs.Json.{string}
use Rattle.json.specs.Token.{Token, end_object}
use Rattle.am_answers.specs.Codes.{invalid_code}
use Rattle.am_script.specs.JsonLines.{named, decimal_json}
use Rattle.am_script.proofs.JsonLines.{and_then}
use Rattle.am_answers.proofs.answer_json.write_invalid.Goals as goal

pub returns : goal.returns
returns c =
    let part-0 : List Token = named (codes "answer") (string (codes "invalid")) in
    let step-0 : c.text.new.self ≡ c.args.line.now ++ part-0 = c.in_ok-text.ensures in
    let part-1 : List Token = named (codes "index") (decimal_json c.args.index) in
    let step-1 : c.number.new.self ≡ c.text.new.self ++ part-1 = search rules in
    let part-2 : List Token = named (codes "fault") (string (invalid_code c.args.fault)) in
    IfOk-weaker c.shown.result _ _ (λ _ last. and_then c.number.new.self c.shown.new.self part-2 (end_object ∷ []) last
    ∙ (and_then c.text.new.self c.number.new.self part-1 _ step-1
    ∙ and_then c.args.line.now c.text.new.self part-0 _ step-0)) c.shown.ensures
