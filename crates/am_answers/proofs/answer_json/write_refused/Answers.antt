use Rattle.std.proofs.Common.{◌≡◌, ◌∙◌, ◌++◌, ◌∷◌, [], List, codes}
use Rattle.std.proofs.lemmas.Result.{IfOk-weaker}
use Rattle.json.specs.Json.{string}
use Rattle.json.specs.Token.{Token, end_object}
use Rattle.am_script.specs.JsonLines.{named}
use Rattle.am_script.specs.ScriptTexts.{verb_text}
use Rattle.am_script.proofs.JsonLines.{and_then}
use Rattle.am_answers.proofs.answer_json.write_refused.Goals as goal

pub returns : goal.returns
returns c =
    let part-0 : List Token = named (codes "answer") (string (codes "refused")) in
    let step-0 : c.text.new.self ≡ c.args.line.now ++ part-0 = c.in_ok-text.ensures in
    let part-1 : List Token = named (codes "do") (string (verb_text c.args.verb)) in
    let step-1 : c.shown.new.self ≡ c.text.new.self ++ part-1 = c.in_ok-shown.ensures in
    let part-2 : List Token = named (codes "fault") (string c.args.why.now) in
    IfOk-weaker c.text-2.result _ _ (λ _ last. and_then c.shown.new.self c.text-2.new.self part-2 (end_object ∷ []) last
    ∙ (and_then c.text.new.self c.shown.new.self part-1 _ step-1
    ∙ and_then c.args.line.now c.text.new.self part-0 _ step-0)) c.text-2.ensures
