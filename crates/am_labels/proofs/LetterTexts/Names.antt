-- The longest name at the start of a text, and what follows it.
use Rattle.std.proofs.Common.{◌≡◌, ℕ, zero, suc, ◌+◌, ◌<◌, Bool, true, false, cond, List, [], ◌∷◌, ◌++◌, take, drop, refl, sym, ◌∙◌, subst, arith, add-one}
use Rattle.std.specs.List.{list_all, prefix_len}
use Rattle.std.specs.Str.{IsUtf8, IsCharBoundary}
use Rattle.std.proofs.Math.Numerals.{one-add}
use Rattle.std.proofs.lemmas.Bool.{false≢true}
use Rattle.std.proofs.lemmas.Bool.Decides.{nat_tests}
use Rattle.std.proofs.lemmas.List.{take-append-drop}
use Rattle.std.proofs.lemmas.List.Sums.{prefix_len_passes, prefix_len-le-length}
use Rattle.std.proofs.lemmas.Str.{IsCharBoundary-start, IsCharBoundary-after_ascii}
use Rattle.am_labels.specs.Printing.{is_name_start, is_name_byte, is_classic_name}
use Rattle.am_labels.specs.Letters.{begins, IsNameThen}
use Rattle.am_labels.proofs.LetterTexts.Stretches.{both, front_ends, front_passes}

classic_step : (b : Bool) (x : ℕ) (xs : List ℕ) → b ≡ true → is_name_start x ≡ true → is_classic_name (take (cond b (1 + prefix_len is_name_byte xs) 0) (x ∷ xs)) ≡ true
classic_step true x xs e h = rw (one-add (prefix_len is_name_byte xs), h) (front_passes is_name_byte xs)
classic_step false x xs e h = absurd (false≢true e)

pub classic_front : (text : List ℕ) → begins is_name_start text ≡ true → is_classic_name (take (prefix_len is_name_byte text) text) ≡ true
classic_front [] h = absurd (false≢true h)
classic_front (x ∷ xs) h = classic_step (is_name_byte x) x xs (rw h refl) h

name_byte_ascii : (byte : ℕ) → is_name_byte byte ≡ true → byte < 128
name_byte_ascii byte h = grind (arith, nat_tests)

pub name_boundary : (text : List ℕ) (n : ℕ) → IsUtf8 text → n ≡ prefix_len is_name_byte text → IsCharBoundary text n
name_boundary text zero utf8 e = IsCharBoundary-start text utf8
name_boundary text (suc n) utf8 e =
    let short : n < prefix_len is_name_byte text = omega arith in
    subst (IsCharBoundary text) (add-one n)
    (IsCharBoundary-after_ascii text n utf8 (omega (arith, prefix_len-le-length is_name_byte text)) (name_byte_ascii _ (prefix_len_passes is_name_byte text n 0 short)))

pub name_then : (text name rest : List ℕ) → begins is_name_start text ≡ true → name ≡ take (prefix_len is_name_byte text) text → rest ≡ drop (prefix_len is_name_byte text) text → IsNameThen text name rest
name_then text name rest named e f = grind (arith, take-append-drop, classic_front, front_ends)

-- the longest front that passes, and what follows it, are fixed
pub one_front : (p : ℕ → Bool) (xs ys rest left : List ℕ) → list_all p xs ≡ true → list_all p ys ≡ true → begins p rest ≡ false → begins p left ≡ false → xs ++ rest ≡ ys ++ left → (xs ≡ ys) × (rest ≡ left)
one_front p [] [] rest left all_x all_y ends_x ends_y e = (refl, e)
one_front p [] (y ∷ ys) rest left all_x all_y ends_x ends_y e = grind arith
one_front p (x ∷ xs) [] rest left all_x all_y ends_x ends_y e = grind arith
one_front p (x ∷ xs) (y ∷ ys) rest left all_x all_y ends_x ends_y e = let other = one_front p xs ys rest left in grind arith

name_all : (name : List ℕ) → is_classic_name name ≡ true → list_all is_name_byte name ≡ true
name_all [] h = absurd (false≢true h)
name_all (x ∷ xs) h = let parts = both (is_name_start x) (list_all is_name_byte xs) h in rw (parts.0, parts.1) refl

pub one_name : (text other name like rest left : List ℕ) → text ≡ other → IsNameThen text name rest → IsNameThen other like left → (name ≡ like) × (rest ≡ left)
one_name text other name like rest left e a b =
    one_front is_name_byte name like rest left (name_all name a.1) (name_all like b.1) a.2 b.2 (sym a.0 ∙ (e ∙ b.0))
