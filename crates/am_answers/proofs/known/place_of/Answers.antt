use Rattle.std.proofs.Common.{◌≡◌, Option, subst, sym, slice_get}
use Rattle.std.specs.Prelude.{IsSomeAnd}
use Rattle.am_alert.specs.declared.alert.Alert.{Alert}
use Rattle.am_labels.specs.LabelSets.{Labels}
use Rattle.am_answers.proofs.known.place_of.Goals as goal

pub returns-then-are_same : goal.returns-then-are_same
returns-then-are_same c =
    let known = c.args.known.now.entries in
    let place = c.in_ok-place.place in
    let alert = c.in_ok-alert.alert.now in
    subst (λ (o : Option Alert). IsSomeAnd o (λ it. IsSomeAnd (slice_get known place) (λ entry. entry.1 ≡ it))) c.in_ok-alert.ensures
    (subst (λ (o : Option (Labels × Alert)). IsSomeAnd o (λ entry. entry.1 ≡ alert)) (sym c.in_ok-place.ensures.entry) (c.are_same.ensures.0 c.if-are_same.true))
