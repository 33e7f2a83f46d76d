-- A text in quotes, as label sets are printed: what its letters mean, and where it ends.
use Rattle.std.proofs.Common.{◌≡◌, ◌≢◌, ℕ, Bool, true, false, cond, ◌==◌, List, [], ◌∷◌, ◌++◌, map, refl, sym, ◌∙◌, arith, append_assoc}
use Rattle.std.specs.List.{list_any}
use Rattle.std.proofs.lemmas.Bool.{false≢true}
use Rattle.std.proofs.lemmas.Bool.Decides.{Decides-eqb}
use Rattle.am_labels.specs.Printing.{escaped_all}
use Rattle.am_labels.specs.Letters.{Letter, plain, escape, letters, meant, is_bare_quote}
use Rattle.am_labels.proofs.LetterTexts.Spelling.{letters-plain, letters-escape}

-- the letter for a byte inside quotes
abbrev pub letter_for : ℕ → Letter
letter_for byte = cond (byte == 34) (escape 34) (cond (byte == 92) (escape 92) (cond (byte == 10) (escape 110) (plain byte)))

differs_from : (byte special : ℕ) → (byte == special) ≡ false → byte ≢ special
differs_from byte special no_eq e = false≢true (sym no_eq ∙ (Decides-eqb byte special).1 e)

written_step : (q b n : Bool) (byte : ℕ) (rest : List ℕ) → (byte == 34) ≡ q → (byte == 92) ≡ b → (byte == 10) ≡ n
    → letters (cond q (92 ∷ 34 ∷ []) (cond b (92 ∷ 92 ∷ []) (cond n (92 ∷ 110 ∷ []) (byte ∷ []))) ++ rest) ≡ cond q (escape 34) (cond b (escape 92) (cond n (escape 110) (plain byte))) ∷ letters rest
written_step true b n byte rest eq eb en = letters-escape 34 rest refl
written_step false true n byte rest eq eb en = letters-escape 92 rest refl
written_step false false true byte rest eq eb en = letters-escape 110 rest refl
written_step false false false byte rest eq eb en = letters-plain byte rest (differs_from byte 92 eb)

bare_step : (q b n : Bool) (byte : ℕ) → (byte == 34) ≡ q
    → is_bare_quote (cond q (escape 34) (cond b (escape 92) (cond n (escape 110) (plain byte)))) ≡ false
bare_step true b n byte eq = refl
bare_step false true n byte eq = refl
bare_step false false true byte eq = refl
bare_step false false false byte eq = eq

pub written : (value rest : List ℕ) → letters (escaped_all value ++ rest) ≡ map letter_for value ++ letters rest
written [] rest = refl
written (byte ∷ value) rest = let other = written value rest in grind (arith, append_assoc, written_step)

pub meant_back : (value : List ℕ) → map meant (map letter_for value) ≡ value
meant_back [] = refl
meant_back (byte ∷ value) = let rest = meant_back value in grind arith

pub none_bare : (value : List ℕ) → list_any is_bare_quote (map letter_for value) ≡ false
none_bare [] = refl
none_bare (byte ∷ value) = rw (bare_step (byte == 34) (byte == 92) (byte == 10) byte refl, none_bare value) refl

-- the letters before the first bare quote, and after it, are fixed
pub first_bare : (xs ys rest left : List Letter) → list_any is_bare_quote xs ≡ false → list_any is_bare_quote ys ≡ false → xs ++ (plain 34 ∷ rest) ≡ ys ++ (plain 34 ∷ left) → (xs ≡ ys) × (rest ≡ left)
first_bare [] [] rest left no_x no_y e = (refl, cc)
first_bare [] (y ∷ ys) rest left no_x no_y e = grind arith
first_bare (x ∷ xs) [] rest left no_x no_y e = grind arith
first_bare (x ∷ xs) (y ∷ ys) rest left no_x no_y e = let other = first_bare xs ys rest left in grind arith

pub quote_first : (rest : List ℕ) → letters (34 ∷ rest) ≡ plain 34 ∷ letters rest
quote_first rest = letters-plain 34 rest (λ e. absurd (omega (arith, e)))
