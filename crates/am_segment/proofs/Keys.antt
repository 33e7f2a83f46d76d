-- The keys of one segment.
use Rattle.std.proofs.Common.{◌≡◌, ℕ, zero, suc, ◌+◌, ◌-◌, ◌<◌, ◌≤◌, ◌⊎◌, inl, inr, true, false, nat_eq, List, [], ◌∷◌, map, length, count_by, refl, sym, ap, ◌∙◌, arith, cond, get_or}
use Rattle.std.specs.List.{All, range_with_len}
use Rattle.std.proofs.lemmas.List.Sums.{sum_by-cons}
use Rattle.std.proofs.lemmas.List.{length-map}
use Rattle.std.proofs.lemmas.List.Elements.{All-map}
use Rattle.am_segment.specs.Segments.{KeyView, AreAllKeys, OrderedAreAll, key_with, keys_of}
use Rattle.am_segment.proofs.Shares.{range-length}

below_or_same : (a m : ℕ) → a ≤ m → (a < m) ⊎ (a ≡ m)
below_or_same zero zero h = inr refl
below_or_same zero (suc m) h = inl (omega arith)
below_or_same (suc a) zero h = absurd (omega arith)
below_or_same (suc a) (suc m) h = elim (below_or_same a m (omega arith)) [ inl l ↦ inl (omega arith) | inr e ↦ inr (ap suc e) ]

-- keys that have one name have each other's
same-name : {X : Type 0} (segment : ℕ) (keys : List (KeyView X)) → All (λ key. key.segment ≡ segment) keys → All (λ key. All (λ other. other.segment ≡ key.segment) keys) keys
same-name segment keys named k d within l e inside = named l e inside ∙ sym (named k d within)

module _ {X : Type 0} where
  abbrev numbered : ℕ → List (KeyView X) → Type 0
  numbered a keys = (i : ℕ) (d : KeyView X) → i < length keys → (get_or keys i d).number ≡ a + i

  rest-numbered : (a : ℕ) (key : KeyView X) (keys : List (KeyView X)) → numbered a (key ∷ keys) → numbered (a + 1) keys
  rest-numbered a key keys h i d below = let one = h (suc i) d (omega arith) in omega (arith, one)

  one-more : (m : ℕ) (key : KeyView X) (keys : List (KeyView X)) → count_by (λ key. nat_eq key.number m) (key ∷ keys) ≡ cond (nat_eq key.number m) 1 0 + count_by (λ key. nat_eq key.number m) keys
  one-more m key keys = sum_by-cons (λ key. cond (nat_eq key.number m) 1 0) key keys

  none-numbered : (a m : ℕ) (keys : List (KeyView X)) → numbered a keys → m < a → count_by (λ key. nat_eq key.number m) keys ≡ 0
  none-numbered a m [] h below = refl
  none-numbered a m (key ∷ keys) h below = let first = h 0 key (omega arith) in let apart : nat_eq key.number m ≡ false = grind arith in
      one-more m key keys ∙ ap (λ b. cond b 1 0 + count_by (λ key. nat_eq key.number m) keys) apart ∙ omega (arith, none-numbered (a + 1) m keys (rest-numbered a key keys h) (omega arith))

  each-numbered : (a m : ℕ) (keys : List (KeyView X)) → numbered a keys → a ≤ m → m < a + length keys → count_by (λ key. nat_eq key.number m) keys ≡ 1
  each-numbered a m [] h low high = absurd (omega arith)
  each-numbered a m (key ∷ keys) h low high = let first = h 0 key (omega arith) in elim (below_or_same a m low) [
    | inl below ↦ (let apart : nat_eq key.number m ≡ false = grind arith in
        one-more m key keys ∙ ap (λ b. cond b 1 0 + count_by (λ key. nat_eq key.number m) keys) apart ∙ omega (arith, each-numbered (a + 1) m keys (rest-numbered a key keys h) (omega arith) (omega arith)))
    | inr same ↦ (let here : nat_eq key.number m ≡ true = grind arith in
        one-more m key keys ∙ ap (λ b. cond b 1 0 + count_by (λ key. nat_eq key.number m) keys) here ∙ omega (arith, none-numbered (a + 1) m keys (rest-numbered a key keys h) (omega arith)))
  ]

  pub in-order : OrderedAreAll X
  in-order segment keys some all order = record {
    some = some;
    of_one = same-name segment keys (λ k d within. (all k d within).0);
    as_many = λ k d within. (all k d within).1;
    each_once = λ number below. each-numbered 0 number keys (λ i d h. let same = order i d h in omega (arith, same)) (omega arith) (omega arith);
  }

numbered-get : {Y : Type 0} (f : ℕ → Y) (a n i : ℕ) (d : Y) → i < n → get_or (map f (range_with_len a n)) i d ≡ f (a + i)
numbered-get f a zero i d below = absurd (omega arith)
numbered-get f a (suc n) zero d below = let same : a ≡ a + 0 = omega arith in ap f same
numbered-get f a (suc n) (suc i) d below = let same : a + 1 + i ≡ a + suc i = omega arith in numbered-get f (a + 1) n i d (omega arith) ∙ ap f same

module _ {X : Type 0} (segment count : ℕ) (items : List X) where
  pub keys-length : length (keys_of segment count items) ≡ count
  keys-length = length-map (range_with_len 0 count) (key_with segment count items) ∙ range-length 0 count

  pub are-all : 1 ≤ count → AreAllKeys (keys_of segment count items)
  are-all some = let f = key_with segment count items in let long = keys-length in
      in-order segment (keys_of segment count items) (omega arith)
      (All-map (λ key. (key.segment ≡ segment) × (key.keys ≡ length (keys_of segment count items))) f (range_with_len 0 count) (λ k d within. (refl, sym long)))
      (λ i d below. let same : 0 + i ≡ i = omega arith in ap (λ k. k.number) (numbered-get f 0 count i d (omega arith)) ∙ same)
