use Rattle.std.proofs.Common.{◌≡◌, ◌∙◌, ◌∷◌, [], ℕ, List, Option, Some, None, refl, ap, sym, subst, get_or, slice_get, slice_set}
use Rattle.std.proofs.lemmas.List.{set-get_or}
use Rattle.std.specs.Option.{option_and_then}
use Rattle.am_runner.specs.Reading.{OpenView}
use Rattle.am_runner.specs.Sessions.{IsAskedAt, IsOne, just, named_in}
use Rattle.am_answers.specs.declared.answer.Answer.{Answer}
use Rattle.am_answers.specs.declared.answer.Answer.TheVariants.{NotOpen}
use Rattle.am_script.specs.declared.command.Verb.TheVariants.{Mutes}
use Rattle.am_runner.proofs.Named.{lent}
use Rattle.am_runner.proofs.Results.{if_ok_map}
use Rattle.am_runner.proofs.session.consumer.ask_named.Goals as goal

pub returns-in_ok-mutes-in-Some-clause-asked : goal.returns-in_ok-mutes-in-Some-clause-asked
returns-in_ok-mutes-in-Some-clause-asked g c =
    let here = sym c.index_named.ensures ∙ c.in-Some.is in
    let found = lent c.args.name.now c.args.opened.now c.in-Some.index c.index-opened-index.result here in
    let named : named_in c.args.name.now c.args.opened.now ≡ Some (get_or c.args.opened.now c.in-Some.index c.index-opened-index.result) = ap (λ (p : Option ℕ). option_and_then (slice_get c.args.opened.now) p) here ∙ found in
    if_ok_map c.one.result c.one.ensures (λ answers are.
    subst (λ (given : List Answer). IsOne (IsAskedAt c.args.labels.now c.args.at (named_in c.args.name.now c.args.opened.now)) given) (sym are)
    (just (subst (λ (one : Option OpenView). IsAskedAt c.args.labels.now c.args.at one c.in_ok-mutes-in-Some.field-0) (sym named) c.in_ok-mutes-in-Some.ensures.asked)))

pub returns-in_ok-mutes-in-Some-clause-same : goal.returns-in_ok-mutes-in-Some-clause-same
returns-in_ok-mutes-in-Some-clause-same g c =
    ap (slice_set c.args.opened.now c.in-Some.index) c.mutes.ensures.same ∙ set-get_or c.args.opened.now c.in-Some.index c.index-opened-index.result

pub returns-in_err-mutes-in-Some-clause-same : goal.returns-in_err-mutes-in-Some-clause-same
returns-in_err-mutes-in-Some-clause-same g c =
    ap (slice_set c.args.opened.now c.in-Some.index) c.mutes.ensures.same ∙ set-get_or c.args.opened.now c.in-Some.index c.index-opened-index.result

pub returns-in-None-clause-asked : goal.returns-in-None-clause-asked
returns-in-None-clause-asked g c =
    let none : named_in c.args.name.now c.args.opened.now ≡ None = ap (λ (p : Option ℕ). option_and_then (slice_get c.args.opened.now) p) (sym c.index_named.ensures ∙ c.in-None.is) in
    if_ok_map c.one-in-None.result c.one-in-None.ensures (λ answers are.
    subst (λ (given : List Answer). IsOne (IsAskedAt c.args.labels.now c.args.at (named_in c.args.name.now c.args.opened.now)) given) (sym are)
    (just (subst (λ (one : Option OpenView). IsAskedAt c.args.labels.now c.args.at one (NotOpen Mutes)) (sym none) refl)))
