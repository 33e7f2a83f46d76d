-- Keeping each name once.
use Rattle.std.proofs.Common.{◌≡◌, ℕ, Bool, true, false, not, cond, ◌||◌, List, [], ◌∷◌, ◌++◌, append-nil, refl, sym, ap, arith, rules}
use Rattle.std.specs.Prelude.{filter}
use Rattle.std.specs.List.{list_any}
use Rattle.std.proofs.lemmas.List.Elements.{filter-append}
use Rattle.std.proofs.lemmas.Slice.Eq.{bytes_eq-Decides}
use Rattle.am_labels.specs.Texts.{same_text}
use Rattle.am_config.specs.RouteHeads.{distinct}

-- whether a name is one of those
abbrev pub has : List ℕ → List (List ℕ) → Bool
has name names = list_any (λ other. same_text other name) names

-- the names that differ from one
abbrev others : List ℕ → List (List ℕ) → List (List ℕ)
others name names = filter (λ other. not (same_text other name)) names

same_name : (x y : List ℕ) → same_text x y ≡ true → x ≡ y
same_name x y h = (bytes_eq-Decides x y).0 h

flipped_false : (x y : List ℕ) (b : Bool) → same_text y x ≡ b → same_text x y ≡ false → b ≡ false
flipped_false x y false other is = refl
flipped_false x y true other is = grind (arith, bytes_eq-Decides, same_name)

-- two texts are the same in either order
flipped : (x y : List ℕ) (b : Bool) → same_text x y ≡ b → same_text y x ≡ b
flipped x y true is = (bytes_eq-Decides y x).1 (sym (same_name x y is))
flipped x y false is = flipped_false x y (same_text y x) refl is

-- a name is found in either order of the comparison
found : (names : List (List ℕ)) (name : List ℕ) → list_any (same_text name) names ≡ has name names
found [] name = refl
found (other ∷ names) name = let rest = found names name in grind (arith, flipped)

has_step : (x y z : List ℕ) (zs : List (List ℕ)) (b : Bool) → same_text z y ≡ b → same_text y x ≡ false
    → has x (others y zs) ≡ has x zs
    → has x (cond (not b) (z ∷ others y zs) (others y zs)) ≡ (same_text z x || has x zs)
has_step x y z zs true is apart later = search (rules, same_name)
has_step x y z zs false is apart later = ap (λ b. same_text z x || b) later

-- a name that differs from one is found among all where it is found among those that differ from it
has-others : (x y : List ℕ) (names : List (List ℕ)) → same_text y x ≡ false → has x (others y names) ≡ has x names
has-others x y [] apart = refl
has-others x y (z ∷ zs) apart = has_step x y z zs (same_text z y) refl apart (has-others x y zs apart)

-- one more name, by whether it is the first and whether it is a later one
more_step : (first name : List ℕ) (kept more : List (List ℕ)) (here later : Bool)
    → same_text first name ≡ here → has name kept ≡ later
    → more ≡ cond later kept (kept ++ name ∷ [])
    → first ∷ others first more ≡ cond (here || has name (others first kept)) (first ∷ others first kept) (first ∷ (others first kept ++ name ∷ []))
more_step first name kept more true true is found same = ap (λ names. first ∷ others first names) same
more_step first name kept more true false is found same = grind (arith, flipped, filter-append, append-nil)
more_step first name kept more false true is found same = grind (arith, has-others, found)
more_step first name kept more false false is found same = grind (arith, flipped, filter-append, has-others, found)

-- the names with one more
pub distinct-more : (names : List (List ℕ)) (name : List ℕ)
    → distinct (names ++ name ∷ []) ≡ cond (has name (distinct names)) (distinct names) (distinct names ++ name ∷ [])
distinct-more [] name = refl
distinct-more (first ∷ names) name = let rest = distinct-more names name in grind (arith, more_step)

-- the names so far, and one more that is added where it isn't there
pub distinct-added : (names kept : List (List ℕ)) (name : List ℕ)
    → kept ≡ distinct names → cond (list_any (same_text name) kept) kept (kept ++ name ∷ []) ≡ distinct (names ++ name ∷ [])
distinct-added names kept name so_far = grind (arith, found, distinct-more)
