use Rattle.std.proofs.Common.{not, length, refl, ap, ◌∙◌, arith}
use Rattle.std.proofs.lemmas.Grind.{common_steps}
use Rattle.std.proofs.lemmas.List.Filters.{length-filter_both}
use Rattle.am_alert.specs.declared.alert.Alert.{Alert}
use Rattle.am_alert.specs.Merging.{is_resolved_at}
use Rattle.am_inhibit.specs.inside.Places.{new_places, index_swept}
use Rattle.am_inhibit.proofs.Places.{are_indexes-swept}
use Rattle.am_inhibit.proofs.inhibitor.Inhibitor.sweep.Goals as goal

pub invariant_of-self : goal.invariant_of-self
invariant_of-self c =
    let now = c.args.now in
    let rules_now = c.self.inside.rules.now in
    let alerts = c.self.inside.alerts in
    let items = c.self.inside.indexes.items in
    let f = index_swept (new_places 0 now alerts) in
    let places = c.deref.ensures.value ∙ (c.note_places.ensures.places ∙ ap (new_places 0 now) c.as_slice.ensures.values) in
    let are = are_indexes-swept rules_now now alerts items c.self.invariant.0 in
    let both = length-filter_both (is_resolved_at now) (λ (alert : Alert). not (is_resolved_at now alert)) (λ alert. refl) alerts in
    let left = ap length c.remove.ensures.left in
    grind (arith, common_steps)
