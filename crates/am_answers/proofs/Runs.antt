-- What is printed of places and answers, one after another.
use Rattle.std.proofs.Common.{◌≡◌, ◌∙◌, ◌<◌, ◌+◌, ◌-◌, ◌∷◌, ◌++◌, [], zero, suc, ℕ, List, drop, get_or, length, Option, None, ap, refl, sym, arith}
use Rattle.std.proofs.lemmas.List.{drop_more, take_all}
use Rattle.std.proofs.Common.{length-drop, take}
use Rattle.std.specs.List.{AllZip}
use Rattle.am_answers.specs.declared.answer.Answer.{Answer}
use Rattle.am_answers.specs.declared.answer.Answer.TheVariants.{Pending}
use Rattle.am_answers.specs.Showing.{kept_text, shown_text}

-- two lists of which each one's items go together, with one more of each
pub all_zip_push : {A B : Type 0} (R : A → B → Type 0) (xs : List A) (ys : List B) (x : A) (y : B) → AllZip R xs ys → R x y → AllZip R (xs ++ x ∷ []) (ys ++ y ∷ [])
all_zip_push R [] [] x y all one = (one, tt)
all_zip_push R [] (b ∷ ys) x y all one = absurd all
all_zip_push R (a ∷ xs) [] x y all one = absurd all
all_zip_push R (a ∷ xs) (b ∷ ys) x y all one = (all.0, all_zip_push R xs ys x y all.1 one)

-- such lists have one length
pub all_zip_length : {A B : Type 0} (R : A → B → Type 0) (xs : List A) (ys : List B) → AllZip R xs ys → length ys ≡ length xs
all_zip_length R [] [] all = refl
all_zip_length R [] (b ∷ ys) all = absurd all
all_zip_length R (a ∷ xs) [] all = absurd all
all_zip_length R (a ∷ xs) (b ∷ ys) all = ap suc (all_zip_length R xs ys all.1)

-- the items from an index on, as many as there are
pub from_start : {X : Type 0} (i : ℕ) (xs : List X) → take (length xs - i) (drop i xs) ≡ drop i xs
from_start i xs = let long = length-drop i xs in take_all (length xs - i) (drop i xs) (omega (arith, long))

-- one less is left of those in the object before
less_left : (before : ℕ) → before ≡ suc before - 1
less_left before = omega arith

-- the place at an index is in the object before
pub kept_passed : (number index before : ℕ) (places : List (Option ℕ)) → index < length places → 0 < before
    → kept_text number index before (drop index places) ≡ kept_text number (index + 1) (before - 1) (drop (index + 1) places)
kept_passed number index zero places less some = absurd (omega (arith, some))
kept_passed number index (suc before) places less some =
    ap (kept_text number index (suc before)) (drop_more places index None less)
    ∙ ap (λ n. kept_text number (index + 1) n (drop (index + 1) places)) (less_left before)

-- the answer at an index is in the object before
pub shown_passed : (number : ℕ) (name : Option (List ℕ)) (index before : ℕ) (given : List Answer) (places : List (Option ℕ))
    → index < length given → length places ≡ length given → 0 < before
    → shown_text number name before (drop index given) (drop index places)
    ≡ shown_text number name (before - 1) (drop (index + 1) given) (drop (index + 1) places)
shown_passed number name index zero given places less same some = absurd (omega (arith, some))
shown_passed number name index (suc before) given places less same some =
    ap (λ l. shown_text number name (suc before) l (drop index places)) (drop_more given index Pending less)
    ∙ (ap (shown_text number name (suc before) (get_or given index Pending ∷ drop (index + 1) given)) (drop_more places index None (omega (arith, less, same)))
    ∙ ap (λ n. shown_text number name n (drop (index + 1) given) (drop (index + 1) places)) (less_left before))

-- the items from an index on begin with that at the index
pub from_index : {X : Type 0} (xs : List X) (i : ℕ) (x : X) → i < length xs → x ≡ get_or xs i x → drop i xs ≡ x ∷ drop (i + 1) xs
from_index xs i x less is = drop_more xs i x less ∙ ap (λ y. y ∷ drop (i + 1) xs) (sym is)
