-- Lists that a slice of all of them was lent of, and lists as one item after another is handed on.
use Rattle.std.proofs.Common.{◌≡◌, ◌∙◌, ℕ, List, [], ◌∷◌, ◌++◌, length, map, take, refl, ap}
use Rattle.std.proofs.lemmas.List.{append_assoc, map-append}

take_whole : {A : Type 0} (xs ys : List A) → take (length xs) (xs ++ ys) ≡ xs
take_whole [] ys = refl
take_whole (x ∷ xs) ys = ap (λ l. x ∷ l) (take_whole xs ys)

pub take_all : {A : Type 0} (n : ℕ) (xs ys : List A) → n ≡ length xs → take n (xs ++ ys) ≡ xs
take_all n xs ys is = ap (λ k. take k (xs ++ ys)) is ∙ take_whole xs ys

pub map_last : {A B : Type 0} (f : A → B) (xs : List A) (x : A) (ys : List A) (rest : List B) → ys ≡ xs ++ x ∷ [] → map f ys ++ rest ≡ map f xs ++ f x ∷ rest
map_last f xs x ys rest is = ap (λ l. map f l ++ rest) is ∙ (ap (λ l. l ++ rest) (map-append f xs (x ∷ [])) ∙ append_assoc (map f xs) (f x ∷ []) rest)

pub list_last : {A : Type 0} (xs : List A) (x : A) (ys rest : List A) → ys ≡ xs ++ x ∷ [] → ys ++ rest ≡ xs ++ x ∷ rest
list_last xs x ys rest is = ap (λ l. l ++ rest) is ∙ append_assoc xs (x ∷ []) rest
