use Rattle.std.proofs.Common.{◌≡◌, ◌-◌, inl, inr, length, not, refl, sym, ap, subst, ◌∙◌, arith, rules, filter}
use Rattle.std.specs.Arc.{arc_value}
use Rattle.std.specs.List.{count_by}
use Rattle.std.proofs.lemmas.List.Sums.{length-filter}
use Rattle.std.proofs.lemmas.List.Filters.{length-filter_both}
use Rattle.std.proofs.lemmas.List.{length-map}
use Rattle.std.proofs.lemmas.Bool.{cases_lt, lt-ltb, le-ltb}
use Rattle.std.specs.declared.sync.Arc.{Arc}
use Rattle.std.specs.declared.alloc.Global.{Global}
use Rattle.am_labels.specs.LabelSets.{Labels}
use Rattle.am_alert.specs.declared.alert.Alert.{Alert}
use Rattle.indexmap.proofs.CallerLemmas.{filter-RetainsPairs}
use Rattle.am_alert.specs.Merging.{is_resolved_at}
use Rattle.am_store.specs.AlertMaps.{stored_in, AreKeptByLabels}
use Rattle.am_store.specs.inside.Blocks.{IsCurrent}
use Rattle.am_store.proofs.Entries.{stored_filtered, kept_filtered, all_left}
use Rattle.am_store.proofs.store.Store.remove_resolved.Goals as goal

left : (c : goal.Joined-self-let_go_if) → c.retain.new.self.entries ≡ filter (λ entry. not (is_resolved_at c.args.now (arc_value entry.1))) c.self.inside.alerts.entries
left c = filter-RetainsPairs _ _ _ (λ k v b w g call. search rules) _ _ c.retain.ensures.filtered

pub invariant_of-self : goal.invariant_of-self
invariant_of-self c =
    let entries = c.retain.new.self.entries in
    let olds = c.self.inside.alerts.entries in
    let flags = c.self.inside.current.items in
    let test = (λ (entry : Labels × Arc Alert Global). not (is_resolved_at c.args.now (arc_value entry.1))) in
    let kept = subst AreKeptByLabels (sym (left c)) (kept_filtered (λ alert. not (is_resolved_at c.args.now alert)) olds c.self.invariant.0) in
    elim (cases_lt 0 (c.len-before.result - c.len.result)) [
      | inl some ↦ (kept, subst (λ list. IsCurrent flags list (stored_in entries)) (sym (c.let_go_if.ensures.gone (lt-ltb 0 (c.len-before.result - c.len.result) some))) tt)
      | inr none ↦
          let many : length (filter test olds) ≡ length olds = omega (arith, none, ap length (left c), c.len-before.ensures.len, c.len.ensures.len, length-filter_both test (λ entry. not (test entry)) (λ entry. refl) olds) in
          let same : entries ≡ olds = left c ∙ all_left test olds many in
          let stays : c.let_go_if.new.shared ≡ c.self.inside.shared = c.let_go_if.ensures.stays (le-ltb 0 (c.len-before.result - c.len.result) none) in
          (kept, subst (λ list. IsCurrent flags list (stored_in entries)) (sym stays) (subst (λ all. IsCurrent flags c.self.inside.shared (stored_in all)) (sym same) c.self.invariant.1))
    ]

pub returns-clause-store : goal.returns-clause-store
returns-clause-store c =
    let view : c.args.self.now ≡ c.self.inside.alerts.entries = search rules in
    ap stored_in (left c) ∙ (stored_filtered (λ alert. not (is_resolved_at c.args.now alert)) c.self.inside.alerts.entries ∙ ap (λ entries. filter (λ alert. not (is_resolved_at c.args.now alert)) (stored_in entries)) (sym view))

pub returns-clause-removed : goal.returns-clause-removed
returns-clause-removed c =
    let view : c.args.self.now ≡ c.self.inside.alerts.entries = search rules in
    let olds = stored_in c.self.inside.alerts.entries in
    let resolved = count_by (is_resolved_at c.args.now) in
    let both = length-filter_both (is_resolved_at c.args.now) (λ alert. not (is_resolved_at c.args.now alert)) (λ alert. refl) olds in
    let gone : length (filter (is_resolved_at c.args.now) olds) ≡ resolved olds = length-filter (is_resolved_at c.args.now) olds in
    let rest : length (stored_in c.retain.new.self.entries) ≡ length (filter (λ alert. not (is_resolved_at c.args.now alert)) olds) =
    ap length (ap stored_in (left c) ∙ stored_filtered (λ alert. not (is_resolved_at c.args.now alert)) c.self.inside.alerts.entries) in
    let before : length olds ≡ length c.self.inside.alerts.entries = length-map c.self.inside.alerts.entries (λ entry. arc_value entry.1) in
    let after : length (stored_in c.retain.new.self.entries) ≡ length c.retain.new.self.entries = length-map c.retain.new.self.entries (λ entry. arc_value entry.1) in
    let count : c.len-before.result - c.len.result ≡ resolved olds = omega (arith, both, gone, rest, before, after, c.len-before.ensures.len, c.len.ensures.len) in
    count ∙ ap (λ entries. resolved (stored_in entries)) (sym view)
