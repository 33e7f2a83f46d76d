use Rattle.std.proofs.Common.{◌≡◌, Some, None, ap, sym, ◌∙◌, rules}
use Rattle.std.specs.Arc.{arc_value}
use Rattle.std.specs.Option.{option_map}
use Rattle.am_store.specs.AlertList.{lookup}
use Rattle.am_store.specs.AlertMaps.{stored_in}
use Rattle.am_store.proofs.Entries.{lookup_held}
use Rattle.am_store.proofs.Judging.{on_err}
use Rattle.am_store.proofs.store.Store.share_of.Goals as goal

pub returns-in_ok-try_clone-in-Some-clause-found : goal.returns-in_ok-try_clone-in-Some-clause-found
returns-in_ok-try_clone-in-Some-clause-found c =
    let view : c.args.self.now ≡ c.self.inside.alerts.entries = search rules in
    let same : arc_value c.in_ok-try_clone-in-Some.field-0 ≡ arc_value c.in-Some.alert.now = search rules in
    ap Some same ∙ (ap (option_map arc_value) c.in-Some.ensures.value ∙ (lookup_held c.args.labels.now c.self.inside.alerts.entries c.self.invariant.0 ∙ ap (λ entries. lookup c.args.labels.now (stored_in entries)) (sym view)))

pub returns-in-None-clause-found : goal.returns-in-None-clause-found
returns-in-None-clause-found c =
    let view : c.args.self.now ≡ c.self.inside.alerts.entries = search rules in
    ap (option_map arc_value) c.in-None.ensures.value ∙ (lookup_held c.args.labels.now c.self.inside.alerts.entries c.self.invariant.0 ∙ ap (λ entries. lookup c.args.labels.now (stored_in entries)) (sym view))

pub returns-in_err-try_clone-in-Some-clause-stored : goal.returns-in_err-try_clone-in-Some-clause-stored
returns-in_err-try_clone-in-Some-clause-stored c =
    let view : c.args.self.now ≡ c.self.inside.alerts.entries = search rules in
    let found = ap (option_map arc_value) c.in-Some.ensures.value ∙ (lookup_held c.args.labels.now c.self.inside.alerts.entries c.self.invariant.0 ∙ ap (λ entries. lookup c.args.labels.now (stored_in entries)) (sym view)) in
    on_err c.from_residual.result (λ none. let no : Some (arc_value c.in-Some.alert.now) ≡ None = found ∙ none in cc)
