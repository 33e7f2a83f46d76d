-- Texts with commas between are the first, and each other with a comma before it.
use Rattle.std.proofs.Common.{◌≡◌, ℕ, List, [], ◌∷◌, ◌++◌, ap, append-nil}
use Rattle.std.specs.List.{flat_map, join_with_byte}
use Rattle.am_labels.specs.Printing.{name_text}
use Rattle.am_routes.specs.Printing.{names_text}

pub texts-first : (first : List ℕ) (others : List (List ℕ)) → first ++ flat_map (λ (text : List ℕ). 44 ∷ text) others ≡ join_with_byte 44 (first ∷ others)
texts-first first [] = append-nil first
texts-first first (text ∷ others) = ap (λ (rest : List ℕ). first ++ 44 ∷ rest) (texts-first text others)

pub names-first : (first : List ℕ) (others : List (List ℕ)) → name_text first ++ flat_map (λ (name : List ℕ). 44 ∷ name_text name) others ≡ names_text (first ∷ others)
names-first first [] = append-nil (name_text first)
names-first first (name ∷ others) = ap (λ (rest : List ℕ). name_text first ++ 44 ∷ rest) (names-first name others)
