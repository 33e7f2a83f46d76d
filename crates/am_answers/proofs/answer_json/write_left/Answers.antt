use Rattle.std.proofs.Common.{◌≡◌, ◌∙◌, ◌++◌, ◌∷◌, [], List, codes}
use Rattle.std.proofs.lemmas.Result.{IfOk-weaker}
use Rattle.json.specs.Json.{boolean, string}
use Rattle.json.specs.Token.{Token, end_object}
use Rattle.am_script.specs.JsonLines.{named, decimal_json}
use Rattle.am_script.proofs.JsonLines.{and_then}
use Rattle.am_answers.proofs.answer_json.write_left.Goals as goal

pub returns : goal.returns
returns c =
    let part-0 : List Token = named (codes "answer") (string (codes "leave")) in
    let step-0 : c.text.new.self ≡ c.args.line.now ++ part-0 = c.in_ok-text.ensures in
    let part-1 : List Token = named (codes "taken") (decimal_json c.args.taken) in
    let step-1 : c.number.new.self ≡ c.text.new.self ++ part-1 = c.in_ok-number.ensures in
    let part-2 : List Token = named (codes "closed") (boolean c.args.closed) in
    let step-2 : c.flag.new.self ≡ c.number.new.self ++ part-2 = c.in_ok-flag.ensures in
    let part-3 : List Token = named (codes "cut") (boolean c.args.cut) in
    IfOk-weaker c.flag-2.result _ _ (λ _ last. and_then c.flag.new.self c.flag-2.new.self part-3 (end_object ∷ []) last
    ∙ (and_then c.number.new.self c.flag.new.self part-2 _ step-2
    ∙ (and_then c.text.new.self c.number.new.self part-1 _ step-1
    ∙ (and_then c.args.line.now c.text.new.self part-0 _ step-0)))) c.flag-2.ensures
