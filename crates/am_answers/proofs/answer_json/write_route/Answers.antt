use Rattle.std.proofs.Common.{rules, ◌≡◌, ◌∙◌, ◌++◌, ◌∷◌, [], List, codes}
use Rattle.std.proofs.lemmas.Result.{IfOk-weaker}
use Rattle.json.specs.Json.{boolean, string}
use Rattle.json.specs.Token.{Token, end_object}
use Rattle.am_script.specs.JsonLines.{named, texts_json, decimal_json}
use Rattle.am_script.proofs.JsonLines.{and_then}
use Rattle.am_answers.specs.PrintingJson.{grouping_json}
use Rattle.am_answers.proofs.answer_json.write_route.Goals as goal

pub returns : goal.returns
returns c =
    let route = c.args.route.now in
    let part-0 : List Token = named (codes "answer") (string (codes "route")) in
    let step-0 : c.text.new.self ≡ c.args.line.now ++ part-0 = c.in_ok-text.ensures in
    let part-1 : List Token = named (codes "route") (decimal_json route.id.0) in
    let step-1 : c.number.new.self ≡ c.text.new.self ++ part-1 = c.in_ok-number.ensures in
    let part-2 : List Token = named (codes "depth") (decimal_json route.depth) in
    let step-2 : c.number-2.new.self ≡ c.number.new.self ++ part-2 = c.in_ok-number-2.ensures in
    let part-3 : List Token = named (codes "receiver") (string route.receiver) in
    let step-3 : c.text-2.new.self ≡ c.number-2.new.self ++ part-3 = search rules in
    let part-4 : List Token = named (codes "matchers") (texts_json route.matchers) in
    let step-4 : c.texts.new.self ≡ c.text-2.new.self ++ part-4 = search rules in
    let part-5 : List Token = named (codes "group_by") (grouping_json route.group_by) in
    let step-5 : c.write_grouping.new.line ≡ c.texts.new.self ++ part-5 = search rules in
    let part-6 : List Token = named (codes "continue") (boolean route.continues) in
    IfOk-weaker c.flag.result _ _ (λ _ last. and_then c.write_grouping.new.line c.flag.new.self part-6 (end_object ∷ []) last
    ∙ (and_then c.texts.new.self c.write_grouping.new.line part-5 _ step-5
    ∙ (and_then c.text-2.new.self c.texts.new.self part-4 _ step-4
    ∙ (and_then c.number-2.new.self c.text-2.new.self part-3 _ step-3
    ∙ (and_then c.number.new.self c.number-2.new.self part-2 _ step-2
    ∙ (and_then c.text.new.self c.number.new.self part-1 _ step-1
    ∙ and_then c.args.line.now c.text.new.self part-0 _ step-0)))))) c.flag.ensures
