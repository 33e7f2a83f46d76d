-- Lists all of whose items are so, as one is taken from the front or added at the end.
use Rattle.std.proofs.Common.{refl, ◌≡◌, ℕ, zero, suc, ◌<◌, ◌++◌, ◌∷◌, [], length, List, get_or, sym, subst, arith, ◌+◌, ap, ◌∙◌, length-append}
use Rattle.std.specs.List.{All}
use Rattle.std.proofs.lemmas.List.Elements.{All-append}

pub all_tail : {A : Type 0} (P : A → Type 0) (x : A) (xs ys : List A) → ys ≡ x ∷ xs → All P ys → All P xs
all_tail P x xs ys is all = λ k d h. let more = subst (All P) is all in more (suc k) d (omega arith)

pub all_head : {A : Type 0} (P : A → Type 0) (x : A) (xs ys : List A) → ys ≡ x ∷ xs → All P ys → P x
all_head P x xs ys is all = let more = subst (All P) is all in more 0 x (omega arith)

pub all_last : {A : Type 0} (P : A → Type 0) (x : A) (xs ys : List A) → ys ≡ xs ++ x ∷ [] → All P xs → P x → All P ys
all_last P x xs ys is all own = subst (All P) (sym is) (All-append P xs (x ∷ []) all one)
  where
    one : (k : ℕ) (d : _) → k < 1 → P (get_or (x ∷ []) k d)
    one zero d h = own
    one (suc k) d h = absurd (omega arith)

pub length_last : {A : Type 0} (x : A) (xs ys : List A) → ys ≡ xs ++ x ∷ [] → length ys ≡ length xs + 1
length_last x xs ys is = ap length is ∙ length-append xs (x ∷ [])

pub empty : {A : Type 0} (xs : List A) → length xs ≡ 0 → xs ≡ []
empty [] e = refl
empty (x ∷ xs) e = absurd (omega (arith, e))
