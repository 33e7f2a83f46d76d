use Rattle.std.proofs.Common.{◌≡◌, ◌∙◌, ◌++◌, ◌∷◌, [], ℕ, List, Option, None, Some, codes}
use Rattle.std.proofs.lemmas.Result.{IfOk-weaker}
use Rattle.json.specs.Json.{string}
use Rattle.json.specs.Token.{Token, end_object}
use Rattle.std.specs.Prelude.{IfSome}
use Rattle.am_script.specs.JsonLines.{named}
use Rattle.am_script.specs.ScriptTexts.{verb_text}
use Rattle.am_script.proofs.JsonLines.{and_then}
use Rattle.am_answers.proofs.answer_json.write_fault.Goals as goal

-- what follows of a text follows of a text that may be there
of_some : {P Q : List ℕ → Type 0} (text : Option (List ℕ)) → ((one : List ℕ) → P one → Q one) → IfSome text P → IfSome text Q
of_some None so p = tt
of_some (Some one) so p = so one p

pub returns : goal.returns
returns g c =
    let part-0 : List Token = named (codes "answer") (string (codes "refused")) in
    let step-0 : c.text.new.self ≡ c.args.line.now ++ part-0 = c.in_ok-text.ensures in
    let part-1 : List Token = named (codes "do") (string (verb_text c.args.verb)) in
    let step-1 : c.shown.new.self ≡ c.text.new.self ++ part-1 = c.in_ok-shown.ensures in
    IfOk-weaker c.shown-2.result _ _ (λ _ shown. of_some _ (λ why last. and_then c.shown.new.self c.shown-2.new.self (named (codes "fault") (string why)) (end_object ∷ []) last
    ∙ (and_then c.text.new.self c.shown.new.self part-1 _ step-1
    ∙ and_then c.args.line.now c.text.new.self part-0 _ step-0)) shown) c.shown-2.ensures
