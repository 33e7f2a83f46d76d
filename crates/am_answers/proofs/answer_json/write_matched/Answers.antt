use Rattle.std.proofs.Common.{rules, ◌≡◌, ◌∙◌, ◌++◌, ◌∷◌, [], List, codes}
use Rattle.std.proofs.lemmas.Result.{IfOk-weaker}
use Rattle.json.specs.Json.{string}
use Rattle.json.specs.Token.{Token, end_object}
use Rattle.am_script.specs.JsonLines.{labels_json, named, decimal_json}
use Rattle.am_script.proofs.JsonLines.{and_then}
use Rattle.am_answers.proofs.answer_json.write_matched.Goals as goal

pub returns : goal.returns
returns c =
    let route = c.args.route.now in
    let part-0 : List Token = named (codes "answer") (string (codes "matched")) in
    let step-0 : c.text.new.self ≡ c.args.line.now ++ part-0 = c.in_ok-text.ensures in
    let part-1 : List Token = named (codes "route") (decimal_json route.id.0) in
    let step-1 : c.number.new.self ≡ c.text.new.self ++ part-1 = c.in_ok-number.ensures in
    let part-2 : List Token = named (codes "receiver") (string route.receiver) in
    let step-2 : c.text-2.new.self ≡ c.number.new.self ++ part-2 = search rules in
    let part-3 : List Token = named (codes "labels") (labels_json route.labels) in
    IfOk-weaker c.labels.result _ _ (λ _ last. and_then c.text-2.new.self c.labels.new.self part-3 (end_object ∷ []) last
    ∙ (and_then c.number.new.self c.text-2.new.self part-2 _ step-2
    ∙ (and_then c.text.new.self c.number.new.self part-1 _ step-1
    ∙ and_then c.args.line.now c.text.new.self part-0 _ step-0))) c.labels.ensures
