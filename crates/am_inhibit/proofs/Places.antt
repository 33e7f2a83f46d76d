-- What a sweep leaves of the indexes: those of the alerts that stay.
use Rattle.std.proofs.Common.{◌≡◌, ℕ, ◌+◌, Bool, true, false, not, cond, List, [], ◌∷◌, ◌++◌, map, length, drop, Option, Some, None, is_some, refl, subst, arith}
use Rattle.std.specs.List.{AllByRecursion, IsDistinct}
use Rattle.std.specs.List.Retain.{RetainsInTurn}
use Rattle.std.specs.Map.{keys_of}
use Rattle.std.specs.Map.Calls.{RetainsPairs}
use Rattle.std.specs.Option.{unwrap_or}
use Rattle.am_alert.specs.declared.alert.Alert.{Alert}
use Rattle.am_alert.specs.Merging.{is_resolved_at}
use Rattle.am_config.specs.declared.inhibit_rule.InhibitRule.{InhibitRule}
use Rattle.am_inhibit.specs.declared.source.Source.{Source}
use Rattle.am_inhibit.specs.LastAlerts.{label_sets}
use Rattle.am_alert.specs.Merging.{unresolved}
use Rattle.am_inhibit.specs.inside.Sources.{same_values}
use Rattle.am_inhibit.specs.inside.Indexes.{SourceEntries, IndexView, sources_listed, sources_from, IsSourceIndexOf, AreSourceIndexesOf}
use Rattle.am_inhibit.specs.inside.Places.{new_places, moved, moved_sources, has_no_sources, swept_entries, index_swept}
use Rattle.am_inhibit.proofs.Indexes.{same_are, are_mapped}
use Rattle.am_inhibit.proofs.Searching.{drop_next}

-- ---- the sources of one list

-- the sources among some alerts are moved to those among the ones that stay
moved-all : (rule : InhibitRule) (values : List (List ℕ)) (now : ℕ) (places : List (Option ℕ)) (alerts : List Alert) (at place : ℕ) → drop at places ≡ new_places place now alerts
    → moved_sources places (sources_from rule values at (label_sets alerts)) ≡ sources_from rule values place (label_sets (unresolved now alerts))
moved-all rule values now places [] at place e = refl
moved-all rule values now places (alert ∷ alerts) at place e =
    let rest = moved-all rule values now places alerts (at + 1) place in
    let other = moved-all rule values now places alerts (at + 1) (place + 1) in
    grind (arith, drop_next)

-- ---- the entries of one index

none_is : (sources : List Source) → has_no_sources sources ≡ true → sources ≡ []
none_is [] e = refl
none_is (source ∷ sources) e = absurd (cc)

none-swept : (places : List (Option ℕ)) (wanted : List (List ℕ)) (entries : SourceEntries) → AllByRecursion (λ other. same_values wanted other ≡ false) (keys_of entries)
    → AllByRecursion (λ other. same_values wanted other ≡ false) (keys_of (swept_entries places entries))
none-swept places wanted [] none = tt
none-swept places wanted (entry ∷ entries) none = let rest = none-swept places wanted entries in grind arith

distinct-swept : (places : List (Option ℕ)) (entries : SourceEntries) → IsDistinct same_values (keys_of entries) → IsDistinct same_values (keys_of (swept_entries places entries))
unfolding IsDistinct
distinct-swept places [] distinct = tt
distinct-swept places (entry ∷ entries) distinct =
    let rest = distinct-swept places entries distinct.1 in
    let none = none-swept places entry.0 entries distinct.0 in
    grind arith

-- what isn't listed isn't listed after a sweep
unlisted-swept : (places : List (Option ℕ)) (wanted : List (List ℕ)) (entries : SourceEntries) → AllByRecursion (λ other. same_values wanted other ≡ false) (keys_of entries) → sources_listed wanted (swept_entries places entries) ≡ []
unlisted-swept places wanted [] none = refl
unlisted-swept places wanted (entry ∷ entries) none = let rest = unlisted-swept places wanted entries in grind arith

sources_listed-swept : (places : List (Option ℕ)) (wanted : List (List ℕ)) (entries : SourceEntries) → IsDistinct same_values (keys_of entries) → sources_listed wanted (swept_entries places entries) ≡ moved_sources places (sources_listed wanted entries)
unfolding IsDistinct
sources_listed-swept places wanted [] distinct = refl
sources_listed-swept places wanted (entry ∷ entries) distinct =
    let rest = sources_listed-swept places wanted entries distinct.1 in
    let none = unlisted-swept places entry.0 entries distinct.0 in
    let empty = none_is (moved_sources places entry.1) in
    let same = same_are wanted entry.0 in
    grind arith

-- ---- the indexes of all rules

is_index-swept : (now : ℕ) (alerts : List Alert) (index : IndexView) → IsSourceIndexOf (label_sets alerts) index → IsSourceIndexOf (label_sets (unresolved now alerts)) (index_swept (new_places 0 now alerts) index)
is_index-swept now alerts index is = grind (arith, distinct-swept, sources_listed-swept, moved-all)

pub are_indexes-swept : (rules : List InhibitRule) (now : ℕ) (alerts : List Alert) (indexes : List IndexView) → AreSourceIndexesOf rules (label_sets alerts) indexes
    → AreSourceIndexesOf rules (label_sets (unresolved now alerts)) (map (index_swept (new_places 0 now alerts)) indexes)
are_indexes-swept rules now alerts indexes are =
    are_mapped rules (index_swept (new_places 0 now alerts)) (label_sets alerts) (label_sets (unresolved now alerts)) indexes (λ index. refl) (is_index-swept now alerts) are

-- ---- one alert more

pub new_places-push : (place now : ℕ) (alerts : List Alert) (alert : Alert)
    → new_places place now (alerts ++ alert ∷ []) ≡ new_places place now alerts ++ cond (is_resolved_at now alert) None (Some (place + length (unresolved now alerts))) ∷ []
new_places-push place now [] alert = grind arith
new_places-push place now (first ∷ alerts) alert =
    let rest = new_places-push place now alerts alert in
    let other = new_places-push (place + 1) now alerts alert in
    grind arith

-- ---- what closures leave

-- where each call moves a source or drops it, the moved ones are left
pub moved-retained : {F : Type 0} (T : F → Source → Bool → F → Source → Type 0) (f : F) (places : List (Option ℕ))
    → ((source : Source) (b : Bool) (g : F) (new : Source) → T f source b g new → (b ≡ is_some (moved places source)) × ((new ≡ unwrap_or (moved places source) source) × (g ≡ f)))
    → (sources kept : List Source) → RetainsInTurn T f sources kept → kept ≡ moved_sources places sources
moved-retained T f places says [] kept h = h
moved-retained T f places says (source ∷ sources) kept h =
    let said = says source h.0 h.1 h.2 h.3 in
    let rest = moved-retained T f places says sources h.4 (subst (λ g. RetainsInTurn T g sources h.4) said.1.1 h.5) in
    let is = h.6 in
    grind arith

-- where each call moves the sources of an entry, and says whether some are left, the entries are swept
pub entries-retained : {F : Type 0} (T : F → List (List ℕ) → List Source → Bool → List Source → F → Type 0) (f : F) (places : List (Option ℕ))
    → ((values : List (List ℕ)) (sources : List Source) (b : Bool) (new : List Source) (g : F) → T f values sources b new g → (b ≡ not (has_no_sources new)) × ((new ≡ moved_sources places sources) × (g ≡ f)))
    → (entries kept : SourceEntries) → RetainsPairs T f entries kept → kept ≡ swept_entries places entries
entries-retained T f places says [] kept h = h
entries-retained T f places says (entry ∷ entries) kept h =
    let said = says entry.0 entry.1 h.0 h.1 h.2 h.4 in
    let rest = entries-retained T f places says entries h.3 (subst (λ g. RetainsPairs T g entries h.3) said.1.1 h.5) in
    (cc)
