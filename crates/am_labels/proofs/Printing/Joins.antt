-- Pairs with commas between are the first, and each other with a comma before it.
use Rattle.std.proofs.Common.{◌≡◌, ℕ, List, [], ◌∷◌, ◌++◌, ap, append-nil}
use Rattle.std.specs.List.{flat_map}
use Rattle.am_labels.specs.Printing.{pair_text, pairs_text}

pub pairs_text-first : (first : List ℕ × List ℕ) (others : List (List ℕ × List ℕ)) → pair_text first ++ flat_map (λ pair. 44 ∷ pair_text pair) others ≡ pairs_text (first ∷ others)
pairs_text-first first [] = append-nil (pair_text first)
pairs_text-first first (pair ∷ others) = ap (λ (rest : List ℕ). pair_text first ++ 44 ∷ rest) (pairs_text-first pair others)
