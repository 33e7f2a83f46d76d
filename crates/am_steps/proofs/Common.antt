-- Lists that grow at their end, and what else std lacks.
use Rattle.std.proofs.Common.{◌≡◌, ℕ, zero, suc, ◌+◌, ◌≤◌, inl, inr, cond, nat_lt, List, [], ◌∷◌, ◌++◌, length, take, drop, slice_get, get_or, replicate, Option, Some, MatchOption, Vec, rules, refl, sym, ap, ◌∙◌, arith}
use Rattle.std.specs.Prelude.{⊤}
use Rattle.std.specs.Vec.{vec_len}
use Rattle.std.proofs.lemmas.Bool.{cases_lt, lt-ltb, le-ltb}
use Rattle.std.proofs.lemmas.List.{take_more, drop_all, length-take-le, get_or_default, get_or_past, length-replicate}
use Rattle.std.proofs.lemmas.Option.{slice_get_within, get_or_from_slice_get, MatchOption-at_some, none-some}

module _ {A : Type 0} where
  -- what holds of the value of an option
  pub of_some : (o : Option A) (P : A → Type 0) → MatchOption o ⊤ P → (x : A) → o ≡ Some x → P x
  of_some o P h x e = MatchOption-at_some ⊤ P x e h

  pub take_more_at : (xs : List A) (n : ℕ) (x : A) → slice_get xs n ≡ Some x → take (n + 1) xs ≡ take n xs ++ x ∷ []
  take_more_at xs n x e = take_more xs n x (slice_get_within xs n x e) ∙ ap (λ y. take n xs ++ y ∷ []) (get_or_from_slice_get xs n x x e)

  pub slice_get_append : (xs ys : List A) (n : ℕ) (x : A) → slice_get xs n ≡ Some x → slice_get (xs ++ ys) n ≡ Some x
  slice_get_append [] ys n x e = absurd (none-some x e)
  slice_get_append (y ∷ xs) ys zero x e = e
  slice_get_append (y ∷ xs) ys (suc n) x e = slice_get_append xs ys n x e

  pub drop_take_same : (xs : List A) (n : ℕ) → n ≤ length xs → drop n (take n xs) ≡ []
  drop_take_same xs n h = drop_all n (take n xs) (let long = length-take-le n xs h in omega arith)

  pub get_or_replicate_same : (n i : ℕ) (x : A) → get_or (replicate n x) i x ≡ x
  get_or_replicate_same zero i x = refl
  get_or_replicate_same (suc n) zero x = refl
  get_or_replicate_same (suc n) (suc i) x = get_or_replicate_same n i x

  pub get_or_replicate : (n i : ℕ) (x d : A) → get_or (replicate n x) i d ≡ cond (nat_lt i n) x d
  get_or_replicate n i x d = elim (cases_lt i n) [
    | inl h ↦ (get_or_default (replicate n x) i d x (omega (arith, length-replicate n x)) ∙ get_or_replicate_same n i x ∙ sym (ap (λ b. cond b x d) (lt-ltb i n h)))
    | inr h ↦ (get_or_past (replicate n x) i d (omega (arith, length-replicate n x)) ∙ sym (ap (λ b. cond b x d) (le-ltb i n h)))
  ]

pub len_is : {X A : Type 0} (v : Vec X A) → vec_len v ≡ length v.items
len_is v = search rules
