use Rattle.std.proofs.Common.{◌≡◌, Some, ap, subst, sym, ◌∙◌, List, length, rules}
use Rattle.std.proofs.lemmas.List.{length-map}
use Rattle.std.specs.Arc.{arc_value}
use Rattle.std.specs.List.{slice_get}
use Rattle.am_alert.specs.declared.alert.Alert.{Alert}
use Rattle.am_store.specs.declared.shared_alerts.TheConstants.{GROUP}
use Rattle.am_store.specs.AlertMaps.{stored_in}
use Rattle.am_store.specs.inside.Blocks.{IsCurrent, all_of}
use Rattle.am_store.proofs.Blocks.{chunks_joined, chunks_of_joined}
use Rattle.am_store.proofs.store.Store.share_all.Goals as goal

pub of_groups-requires-clause-groups : goal.of_groups-requires-clause-groups
of_groups-requires-clause-groups c = chunks_of_joined GROUP (λ (group : List Alert). group) c.in_ok-groups.groups.items (stored_in c.args.self.now) c.in_ok-groups.ensures

pub of_groups-requires-clause-len : goal.of_groups-requires-clause-len
of_groups-requires-clause-len c =
    let view : c.args.self.now ≡ c.self.inside.alerts.entries = search rules in
    let all : length (all_of c.in_ok-groups.groups.items) ≡ length c.self.inside.alerts.entries =
    ap length (chunks_joined GROUP (λ (group : List Alert). group) c.in_ok-groups.groups.items (stored_in c.args.self.now) c.in_ok-groups.ensures) ∙ (ap (λ entries. length (stored_in entries)) view ∙ length-map c.self.inside.alerts.entries (λ entry. arc_value entry.1)) in
    (c.len-2.ensures.len ∙ sym all, c.len-2.ensures.small)

pub invariant_of-self : goal.invariant_of-self
invariant_of-self c =
    let view : c.args.self.now ≡ c.self.inside.alerts.entries = search rules in
    let joined : all_of c.in_ok-groups.groups.items ≡ stored_in c.args.self.now = chunks_joined GROUP (λ (group : List Alert). group) c.in_ok-groups.groups.items (stored_in c.args.self.now) c.in_ok-groups.ensures in
    let shared : c.in_ok-shared.shared ≡ all_of c.in_ok-groups.groups.items = search rules in
    let kept : c.in_ok-kept.kept ≡ c.in_ok-shared.shared = search rules in
    let there : c.replace.new.dest ≡ Some c.in_ok-kept.kept = search rules in
    let same : c.in_ok-kept.kept ≡ stored_in c.self.inside.alerts.entries = kept ∙ (shared ∙ (joined ∙ ap stored_in view)) in
    (c.self.invariant.0, subst (λ list. IsCurrent c.in_ok-current.current.items list (stored_in c.self.inside.alerts.entries)) (sym there) (λ at flag. ap (λ list. slice_get list at) same))

pub returns-clause-shared : goal.returns-clause-shared
returns-clause-shared c =
    let joined : all_of c.in_ok-groups.groups.items ≡ stored_in c.args.self.now = chunks_joined GROUP (λ (group : List Alert). group) c.in_ok-groups.groups.items (stored_in c.args.self.now) c.in_ok-groups.ensures in
    let shared : c.in_ok-shared.shared ≡ all_of c.in_ok-groups.groups.items = search rules in
    shared ∙ joined
