-- The map of stored alerts, seen as the list of its alerts.
use Rattle.std.proofs.Common.{◌≡◌, ℕ, zero, suc, ◌-◌, ◌<◌, ◌≤◌, Bool, true, false, not, cond, List, [], ◌∷◌, ◌++◌, filter, length, take, Some, refl, sym, ap, ◌∙◌, arith, length-append}
use Rattle.std.specs.Arc.{arc_value}
use Rattle.std.specs.declared.sync.Arc.{Arc}
use Rattle.std.specs.declared.alloc.Global.{Global}
use Rattle.std.specs.List.{slice_get, position}
use Rattle.std.specs.Option.{option_map}
use Rattle.std.specs.Map.{keys_of, values_of}
use Rattle.std.specs.Map as map
use Rattle.std.proofs.Math.Seq.{take-append_seam}
use Rattle.std.proofs.lemmas.List.{length-map}
use Rattle.std.proofs.lemmas.List.Filters.{length-filter_both}
use Rattle.indexmap.specs.IndexMap.{insert_entry, set_value_at}
use Rattle.indexmap.proofs.MapLemmas.{Found-position, insert_entry-first}
use Rattle.am_labels.specs.LabelSets.{Labels, same_labels}
use Rattle.am_labels.specs.LabelLaws.{labels_decide}
use Rattle.am_alert.specs.declared.alert.Alert.{Alert}
use Rattle.am_alert.specs.Merging.{absorbed}
use Rattle.am_store.specs.declared.store.absorb.Change.{Change}
use Rattle.am_store.specs.AlertList.{lookup, with_alert, absorb_into, batch_by_list}
use Rattle.am_store.specs.Shared.{alerts_in}
use Rattle.am_store.specs.AlertMaps.{stored_in, AreKeptByLabels, taken_back, all_taken_back}
use Rattle.am_store.proofs.Stored.{by_option, absorbed_labels}

pub values_stored : (entries : List (Labels × Arc Alert Global)) → alerts_in (values_of entries) ≡ stored_in entries
values_stored [] = refl
values_stored (entry ∷ entries) = ap (λ rest. arc_value entry.1 ∷ rest) (values_stored entries)

-- a look-up by label sets finds the alert
pub lookup_held : (labels : Labels) (entries : List (Labels × Arc Alert Global)) → AreKeptByLabels entries
    → option_map arc_value (map.lookup (same_labels labels) entries) ≡ lookup labels (stored_in entries)
lookup_held labels [] kept = refl
lookup_held labels (entry ∷ entries) kept = let rest = lookup_held labels entries in grind arith

-- an insertion sets the alert in its place, else at the end
pub stored_inserted : (entries : List (Labels × Arc Alert Global)) (labels : Labels) (new : Arc Alert Global) → AreKeptByLabels entries → (arc_value new).labels ≡ labels
    → stored_in (insert_entry same_labels entries labels new) ≡ with_alert (arc_value new) (stored_in entries)
stored_inserted [] labels new kept own = refl
stored_inserted (entry ∷ entries) labels new kept own = let rest = stored_inserted entries labels new in grind arith

pub kept_inserted : (entries : List (Labels × Arc Alert Global)) (labels : Labels) (new : Arc Alert Global) → AreKeptByLabels entries → (arc_value new).labels ≡ labels
    → AreKeptByLabels (insert_entry same_labels entries labels new)
kept_inserted [] labels new kept own = (sym own, tt)
kept_inserted (entry ∷ entries) labels new kept own = let rest = kept_inserted entries labels new in grind (arith, labels_decide)

-- a write at the index of a label set is an insertion
pub written_at : (entries : List (Labels × Arc Alert Global)) (labels : Labels) (new : Arc Alert Global) (at : ℕ) → position (same_labels labels) (keys_of entries) ≡ Some at
    → set_value_at entries at new ≡ insert_entry same_labels entries labels new
written_at entries labels new at found = sym (insert_entry-first same_labels labels new entries at (Found-position (same_labels labels) entries at found).first)

-- ---- changes taken back

pub added_back : (entries : List (Labels × Arc Alert Global)) (entry : Labels × Arc Alert Global) → take (length (entries ++ entry ∷ []) - 1) (entries ++ entry ∷ []) ≡ entries
added_back entries entry =
    let all : length (entries ++ entry ∷ []) - 1 ≡ length entries = omega (arith, length-append entries (entry ∷ [])) in
    ap (λ n. take n (entries ++ entry ∷ [])) all ∙ take-append_seam entries (entry ∷ [])

pub replaced_back : (entries : List (Labels × Arc Alert Global)) (at : ℕ) (new before : Arc Alert Global) → slice_get (values_of entries) at ≡ Some before
    → set_value_at (set_value_at entries at new) at before ≡ entries
replaced_back [] at new before got = refl
replaced_back (entry ∷ entries) zero new before got = let same : entry.1 ≡ before = (cc) in ap (λ value. (entry.0, value) ∷ entries) (sym same)
replaced_back (entry ∷ entries) (suc at) new before got = ap (λ rest. entry ∷ rest) (replaced_back entries at new before got)

pub outside : (at count : ℕ) → (at < count → false ≡ true) → count ≤ at
outside at zero never = omega arith
outside zero (suc count) never = absurd (let e = never (omega arith) in (cc))
outside (suc at) (suc count) never = let h = outside at count (λ l. never (omega arith)) in omega arith

pub written_past : (entries : List (Labels × Arc Alert Global)) (at : ℕ) (new : Arc Alert Global) → length entries ≤ at → set_value_at entries at new ≡ entries
written_past [] at new past = refl
written_past (entry ∷ entries) zero new past = absurd (omega arith)
written_past (entry ∷ entries) (suc at) new past = ap (λ rest. entry ∷ rest) (written_past entries at new (omega arith))

pub all_back_last : (changes : List Change) (change : Change) (entries : List (Labels × Arc Alert Global)) → all_taken_back (changes ++ change ∷ []) entries ≡ all_taken_back changes (taken_back change entries)
all_back_last [] change entries = refl
all_back_last (first ∷ changes) change entries = ap (taken_back first) (all_back_last changes change entries)

-- ---- what is resolved goes

pub stored_filtered : (q : Alert → Bool) (entries : List (Labels × Arc Alert Global)) → stored_in (filter (λ entry. q (arc_value entry.1)) entries) ≡ filter q (stored_in entries)
stored_filtered q [] = refl
stored_filtered q (entry ∷ entries) = let rest = stored_filtered q entries in grind arith

pub kept_filtered : (q : Alert → Bool) (entries : List (Labels × Arc Alert Global)) → AreKeptByLabels entries → AreKeptByLabels (filter (λ entry. q (arc_value entry.1)) entries)
kept_filtered q [] kept = tt
kept_filtered q (entry ∷ entries) kept = let rest = kept_filtered q entries in grind arith

-- a filter that leaves as many as there were leaves all
pub all_left : {X : Type 0} (q : X → Bool) (xs : List X) → length (filter q xs) ≡ length xs → filter q xs ≡ xs
all_left q [] many = refl
all_left q (x ∷ xs) many =
    elim (q x) as (λ b. length (cond b (x ∷ filter q xs) (filter q xs)) ≡ length (x ∷ xs) → cond b (x ∷ filter q xs) (filter q xs) ≡ x ∷ xs) [
      | true ↦ λ same. ap (λ rest. x ∷ rest) (all_left q xs (omega (arith, same)))
      | false ↦ λ same. absurd (omega (arith, same, length-filter_both q (λ y. not (q y)) (λ y. refl) xs))
    ] many

-- ---- what a report becomes has its label set

lookup_own : (labels : Labels) (olds : List Alert) (old : Alert) → lookup labels olds ≡ Some old → old.labels ≡ labels
lookup_own labels [] old e = (cc)
lookup_own labels (a ∷ olds) old e = let rest = lookup_own labels olds old in grind (arith, labels_decide)

pub became_own : (now : ℕ) (olds : List Alert) (new : Alert) → (absorbed now (lookup new.labels olds) new).labels ≡ new.labels
became_own now olds new =
    by_option {P = (absorbed now (lookup new.labels olds) new).labels ≡ new.labels} (lookup new.labels olds)
    (λ none. ap (λ held. (absorbed now held new).labels) none)
    (λ old some. ap (λ held. (absorbed now held new).labels) some ∙ absorbed_labels now old new (lookup_own new.labels olds old some))

-- ---- a batch has one alert for each report

pub length_batch : (now : ℕ) (news olds : List Alert) → length (batch_by_list now news olds) ≡ length news
length_batch now [] olds = refl
length_batch now (new ∷ news) olds = ap suc (length_batch now news (absorb_into now new olds))

pub length_became : (shared : List (Arc Alert Global)) (now : ℕ) (news olds : List Alert) → alerts_in shared ≡ batch_by_list now news olds → length shared ≡ length news
length_became shared now news olds is = sym (length-map shared arc_value) ∙ (ap length is ∙ length_batch now news olds)
