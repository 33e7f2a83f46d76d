-- What a loop makes of a list, one element after another.
use Rattle.std.proofs.Common.{◌≡◌, ℕ, ◌+◌, ◌<◌, List, [], ◌∷◌, ◌++◌, length, take, get_or, sym, ap, ◌∙◌}
use Rattle.std.specs.List.{flat_map}
use Rattle.std.proofs.lemmas.Grind.{flat_map-append}
use Rattle.std.proofs.lemmas.List.{append-nil, take_more}

-- what is made of one more
pub one_more : {A B : Type 0} (f : A → List B) (xs : List A) (at : ℕ) (x : A) → at < length xs → x ≡ get_or xs at x → flat_map f (take (at + 1) xs) ≡ flat_map f (take at xs) ++ f x
one_more {A} f xs at x inside is =
    ap (flat_map f) (take_more xs at x inside ∙ ap (λ (last : A). take at xs ++ last ∷ []) (sym is))
    ∙ (flat_map-append f (take at xs) (x ∷ []) ∙ ap (λ last. flat_map f (take at xs) ++ last) (append-nil (f x)))
