-- The map of values with keys, seen as the list of its values.
use Rattle.std.proofs.Common.{◌≡◌, ℕ, zero, suc, ◌-◌, Bool, true, false, List, [], ◌∷◌, ◌++◌, map, filter, take, length, Some, refl, sym, ap, ◌∙◌, arith, length-append}
use Rattle.std.specs.List.{position, find, list_any}
use Rattle.std.specs.Map.{keys_of, values_of, lookup}
use Rattle.std.specs.Cmp.{IsEquivalence}
use Rattle.std.proofs.lemmas.List.{length-map, take-map}
use Rattle.std.proofs.lemmas.Map.Made.{is_some-lookup}
use Rattle.std.proofs.Math.Seq.{take-append_seam}
use Rattle.indexmap.specs.IndexMap.{insert_entry, set_value_at}
use Rattle.indexmap.proofs.MapLemmas.{Found-position, insert_entry-first}
use Rattle.am_keyed.specs.Keyed.{with_value, with_old}
use Rattle.am_keyed.specs.inside.Entries.{AreOwnKeys}

module _ {K V : Type 0} (key : V → K) where
  pub head_kept : (entry : K × V) (entries : List (K × V)) → AreOwnKeys key (entry ∷ entries) → entry.0 ≡ key entry.1
  head_kept entry entries kept = let keys = kept.keys in (cc)

  pub tail_kept : (entry : K × V) (entries : List (K × V)) → AreOwnKeys key (entry ∷ entries) → AreOwnKeys key entries
  tail_kept entry entries kept = record { keys = let keys = kept.keys in (cc) }

  pub values-filtered : (test : V → Bool) (entries : List (K × V)) → values_of (filter (λ entry. test entry.1) entries) ≡ filter test (values_of entries)
  values-filtered test [] = refl
  values-filtered test (entry ∷ entries) = let rest = values-filtered test entries in grind arith

  pub still_filtered : (test : V → Bool) (entries : List (K × V)) → AreOwnKeys key entries → AreOwnKeys key (filter (λ entry. test entry.1) entries)
  still_filtered test [] kept = kept
  still_filtered test (entry ∷ entries) kept = let rest = still_filtered test entries in grind (arith, head_kept, tail_kept)

  pub still_taken : (n : ℕ) (entries : List (K × V)) → AreOwnKeys key entries → AreOwnKeys key (take n entries)
  still_taken zero entries kept = record { keys = refl }
  still_taken (suc n) [] kept = record { keys = refl }
  still_taken (suc n) (entry ∷ entries) kept = let rest = still_taken n entries in grind (arith, head_kept, tail_kept)

module _ {K V : Type 0} (eq : K → K → Bool) (key : V → K) where
  pub values-inserted : (entries : List (K × V)) (own : K) (value : V) → AreOwnKeys key entries → own ≡ key value → values_of (insert_entry eq entries own value) ≡ with_value eq key value (values_of entries)
  values-inserted [] own value kept is = refl
  values-inserted (entry ∷ entries) own value kept is = let rest = values-inserted entries own value in grind (arith, head_kept, tail_kept)

  pub found-kept : (entries : List (K × V)) (own : K) → AreOwnKeys key entries → lookup (eq own) entries ≡ find (λ value. eq own (key value)) (values_of entries)
  found-kept [] own kept = refl
  found-kept (entry ∷ entries) own kept = let rest = found-kept entries own in grind (arith, head_kept, tail_kept)

  -- a write at the index of a key is an insertion
  pub written_at : (entries : List (K × V)) (own : K) (value : V) (at : ℕ) → position (eq own) (keys_of entries) ≡ Some at → set_value_at entries at value ≡ insert_entry eq entries own value
  written_at entries own value at found = sym (insert_entry-first eq own value entries at (Found-position (eq own) entries at found).first)

  pub with_old-found : (before : V) (values : List V) → list_any (eq (key before)) (map key values) ≡ true → with_old eq key before values ≡ with_value eq key before values
  with_old-found before [] there = absurd (cc)
  with_old-found before (value ∷ values) there = let rest = with_old-found before values in grind arith

  pub with_old-none : (before : V) (values : List V) → list_any (eq (key before)) (map key values) ≡ false → with_old eq key before values ≡ values
  with_old-none before [] none = refl
  with_old-none before (value ∷ values) none = let rest = with_old-none before values in grind arith

  pub with_value-new : (value : V) (values : List V) → list_any (eq (key value)) (map key values) ≡ false → with_value eq key value values ≡ values ++ value ∷ []
  with_value-new value [] none = refl
  with_value-new value (old ∷ olds) none = let rest = with_value-new value olds in grind arith

  -- a value that began its key is the last one
  pub added_back : (value : V) (values : List V) → list_any (eq (key value)) (map key values) ≡ false → take (length (with_value eq key value values) - 1) (with_value eq key value values) ≡ values
  added_back value values none =
      let all : length (values ++ value ∷ []) - 1 ≡ length values = omega (arith, length-append values (value ∷ [])) in
      ap (λ l. take (length l - 1) l) (with_value-new value values none) ∙ (ap (λ n. take n (values ++ value ∷ [])) all ∙ take-append_seam values (value ∷ []))

  module _ (same : (a b : K) → eq a b ≡ true → a ≡ b) where
    pub still_kept : (entries : List (K × V)) (own : K) (value : V) → AreOwnKeys key entries → own ≡ key value → AreOwnKeys key (insert_entry eq entries own value)
    still_kept [] own value kept is = record { keys = ap (λ l. l ∷ []) is }
    still_kept (entry ∷ entries) own value kept is =
        let rest = still_kept entries own value in
        grind (arith, same, tail_kept, head_kept)

    found_own : (own : K) (before : V) (values : List V) → find (λ value. eq own (key value)) values ≡ Some before → own ≡ key before
    found_own own before [] found = absurd (cc)
    found_own own before (value ∷ values) found = let rest = found_own own before values in grind (arith, same)

    put_same : IsEquivalence eq → (value before : V) (values : List V) → key value ≡ key before → find (λ other. eq (key value) (key other)) values ≡ Some before → with_old eq key before (with_value eq key value values) ≡ values
    put_same laws value before [] is found = absurd (cc)
    put_same laws value before (first ∷ values) is found =
        let rest = put_same laws value before values is in
        grind (arith, laws.refl)

    pub put_back : IsEquivalence eq → (value before : V) (values : List V) → find (λ other. eq (key value) (key other)) values ≡ Some before → with_old eq key before (with_value eq key value values) ≡ values
    put_back laws value before values found = put_same laws value before values (found_own (key value) before values found) found

-- what a look-up rests on, and what the undoing of a change does
pub ruleset look_up_laws = (is_some-lookup)

pub ruleset undo_laws = (take-map, length-map, still_taken, with_old-found, with_old-none)
