use Rattle.std.proofs.Common.{◌≡◌, ◌∙◌, ◌++◌, ◌∷◌, [], List, codes}
use Rattle.std.proofs.lemmas.Result.{IfOk-weaker}
use Rattle.json.specs.Json.{string}
use Rattle.json.specs.Token.{Token, end_object}
use Rattle.am_script.specs.JsonLines.{named, decimal_json}
use Rattle.am_script.proofs.JsonLines.{and_then}
use Rattle.am_answers.proofs.answer_json.write_page.Goals as goal

pub returns : goal.returns
returns c =
    let part-0 : List Token = named (codes "answer") (string (codes "page")) in
    let step-0 : c.text.new.self ≡ c.args.line.now ++ part-0 = c.in_ok-text.ensures in
    let part-1 : List Token = named (codes "alerts") (decimal_json c.args.page.alerts) in
    let step-1 : c.number.new.self ≡ c.text.new.self ++ part-1 = c.in_ok-number.ensures in
    let part-2 : List Token = named (codes "from") (decimal_json c.args.page.from) in
    let step-2 : c.number-2.new.self ≡ c.number.new.self ++ part-2 = c.in_ok-number-2.ensures in
    let part-3 : List Token = named (codes "stored") (decimal_json c.args.page.stored) in
    let step-3 : c.number-3.new.self ≡ c.number-2.new.self ++ part-3 = c.in_ok-number-3.ensures in
    let part-4 : List Token = named (codes "calls") (decimal_json c.args.page.calls) in
    IfOk-weaker c.number-4.result _ _ (λ _ last. and_then c.number-3.new.self c.number-4.new.self part-4 (end_object ∷ []) last
    ∙ (and_then c.number-2.new.self c.number-3.new.self part-3 _ step-3
    ∙ (and_then c.number.new.self c.number-2.new.self part-2 _ step-2
    ∙ (and_then c.text.new.self c.number.new.self part-1 _ step-1
    ∙ (and_then c.args.line.now c.text.new.self part-0 _ step-0))))) c.number-4.ensures
