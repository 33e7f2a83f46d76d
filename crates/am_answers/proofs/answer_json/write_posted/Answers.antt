use Rattle.std.proofs.Common.{rules, ◌≡◌, ◌∙◌, ◌++◌, ◌∷◌, [], List, Option, ap, codes, sym, ℕ}
use Rattle.std.proofs.lemmas.Result.{IfOk-weaker}
use Rattle.json.specs.Json.{null, string}
use Rattle.json.specs.Token.{Token, end_object}
use Rattle.json.specs.Tree.{members_tokens}
use Rattle.am_script.specs.JsonLines.{named, decimal_json}
use Rattle.am_script.proofs.JsonLines.{and_then}
use Rattle.am_answers.specs.PrintingJson.{posted_members}
use Rattle.am_answers.proofs.answer_json.write_posted.Goals as goal

pub returns-in-Some : goal.returns-in-Some
returns-in-Some c =
    let part-0 : List Token = named (codes "answer") (string (codes "post")) in
    let step-0 : c.text.new.self ≡ c.args.line.now ++ part-0 = c.in_ok-text.ensures in
    let part-1 : List Token = named (codes "valid") (decimal_json c.args.valid) in
    let step-1 : c.number.new.self ≡ c.text.new.self ++ part-1 = search rules in
    let part-2 : List Token = named (codes "place") (decimal_json c.in-Some.place) in
    IfOk-weaker c.number-in-Some.result _ _ (λ _ last. and_then c.number.new.self c.number-in-Some.new.self part-2 (end_object ∷ []) last
    ∙ (and_then c.text.new.self c.number.new.self part-1 _ step-1
    ∙ (and_then c.args.line.now c.text.new.self part-0 _ step-0
    ∙ ap (λ (place : Option ℕ). c.args.line.now ++ members_tokens (posted_members c.args.valid place)) (sym c.in-Some.is)))) c.number-in-Some.ensures

pub returns-in-None : goal.returns-in-None
returns-in-None c =
    let part-0 : List Token = named (codes "answer") (string (codes "post")) in
    let step-0 : c.text.new.self ≡ c.args.line.now ++ part-0 = c.in_ok-text.ensures in
    let part-1 : List Token = named (codes "valid") (decimal_json c.args.valid) in
    let step-1 : c.number.new.self ≡ c.text.new.self ++ part-1 = search rules in
    let part-2 : List Token = named (codes "place") null in
    IfOk-weaker c.null.result _ _ (λ _ last. and_then c.number.new.self c.null.new.self part-2 (end_object ∷ []) last
    ∙ (and_then c.text.new.self c.number.new.self part-1 _ step-1
    ∙ (and_then c.args.line.now c.text.new.self part-0 _ step-0
    ∙ ap (λ (place : Option ℕ). c.args.line.now ++ members_tokens (posted_members c.args.valid place)) (sym c.in-None.is)))) c.null.ensures
