-- The letters of a text, one after another.
use Rattle.std.proofs.Common.{◌≡◌, ◌≢◌, ℕ, suc, ◌<◌, Bool, true, false, cond, List, [], ◌∷◌, ◌++◌, length, get_or, map, encode_utf8, refl, sym, ap, ◌∙◌, arith, append-nil, append_assoc, ◌==◌, ◌&&◌}
use Rattle.std.specs.List.{list_any, flat_map}
use Rattle.std.proofs.lemmas.Bool.{ne_eqb, false≢true}
use Rattle.std.proofs.lemmas.Bool.Decides.{nat_tests}
use Rattle.std.proofs.lemmas.List.{map-append}
use Rattle.std.proofs.lemmas.List.Folds.{list_any-append}
use Rattle.std.proofs.lemmas.Str.{inside_one, encode_ascii, length-encode, len_utf8_bounds}
use Rattle.am_labels.specs.Letters.{LettersSpellTheText, spelled, Letter, plain, escape, letters, meant, is_escapable, is_bare_quote, after_backslash, IsMeantUntil}

-- a byte that is no backslash means itself
pub letters-plain : (byte : ℕ) (rest : List ℕ) → byte ≢ 92 → letters (byte ∷ rest) ≡ plain byte ∷ letters rest
letters-plain byte [] other = refl
letters-plain byte (next ∷ rest) other = rw (ne_eqb byte 92 other) refl

-- a backslash and what it escapes
pub letters-escape : (next : ℕ) (rest : List ℕ) → is_escapable next ≡ true → letters (92 ∷ next ∷ rest) ≡ escape next ∷ letters rest
letters-escape next rest can = rw can refl

-- a backslash before another byte
pub letters-lone : (next : ℕ) (rest : List ℕ) → is_escapable next ≡ false → letters (92 ∷ next ∷ rest) ≡ plain 92 ∷ letters (next ∷ rest)
letters-lone next rest cannot = rw cannot refl

letters-plains : (bytes rest : List ℕ) → ((k : ℕ) → k < length bytes → get_or bytes k 0 ≢ 92) → letters (bytes ++ rest) ≡ map plain bytes ++ letters rest
letters-plains [] rest other = refl
letters-plains (byte ∷ bytes) rest other =
    letters-plain byte (bytes ++ rest) (other 0 (omega arith))
    ∙ ap (λ (end : List Letter). plain byte ∷ end) (letters-plains bytes rest (λ k short. other (suc k) (omega arith)))

-- a byte of a character is no special one, if the character isn't
pub differs : (c k special : ℕ) → special < 128 → c ≢ special → k < length (encode_utf8 c) → get_or (encode_utf8 c) k 0 ≢ special
differs c k special ascii other short is =
    other (inside_one c [] (encode_utf8 c) k (sym (append-nil (encode_utf8 c))) short (omega arith) ∙ is)

-- a character that is no backslash means itself
pub letters-char : (c : ℕ) (rest : List ℕ) → c ≢ 92 → letters (encode_utf8 c ++ rest) ≡ map plain (encode_utf8 c) ++ letters rest
letters-char c rest other = letters-plains (encode_utf8 c) rest (λ k short. differs c k 92 (omega arith) other short)

pub meant-plains : (bytes : List ℕ) → map meant (map plain bytes) ≡ bytes
meant-plains [] = refl
meant-plains (byte ∷ bytes) = ap (λ (end : List ℕ). byte ∷ end) (meant-plains bytes)

no_bare_plains : (bytes : List ℕ) → ((k : ℕ) → k < length bytes → get_or bytes k 0 ≢ 34) → list_any is_bare_quote (map plain bytes) ≡ false
no_bare_plains [] other = refl
no_bare_plains (byte ∷ bytes) other = rw (ne_eqb byte 34 (other 0 (omega arith))) (no_bare_plains bytes (λ k short. other (suc k) (omega arith)))

pub no_bare_char : (c : ℕ) → c ≢ 34 → list_any is_bare_quote (map plain (encode_utf8 c)) ≡ false
no_bare_char c other = no_bare_plains (encode_utf8 c) (λ k short. differs c k 34 (omega arith) other short)

lone_step : (bytes rest : List ℕ) → 0 < length bytes → is_escapable (get_or bytes 0 0) ≡ false → letters (92 ∷ (bytes ++ rest)) ≡ plain 92 ∷ letters (bytes ++ rest)
lone_step [] rest some cannot = absurd (omega arith)
lone_step (byte ∷ bytes) rest some cannot = letters-lone byte (bytes ++ rest) cannot

escapable_special : (byte : ℕ) → byte ≢ 110 → byte ≢ 34 → byte ≢ 92 → is_escapable byte ≡ false
escapable_special byte a b c = rw (ne_eqb byte 110 a, ne_eqb byte 34 b, ne_eqb byte 92 c) refl

specials : (c : ℕ) → is_escapable c ≡ false → (c ≢ 110) × (c ≢ 34) × (c ≢ 92)
specials c cannot = (grind (arith, nat_tests), grind (arith, nat_tests), grind (arith, nat_tests))

-- a character after a backslash
after_step : (b : Bool) (c : ℕ) (rest : List ℕ) → is_escapable c ≡ b → letters (92 ∷ (encode_utf8 c ++ rest)) ≡ cond b (escape c ∷ []) (plain 92 ∷ map plain (encode_utf8 c)) ++ letters rest
after_step true c rest can = grind (arith, encode_ascii, nat_tests, letters-escape)
after_step false c rest cannot =
    let other = specials c cannot in
    let some : 0 < length (encode_utf8 c) = omega (arith, length-encode c, len_utf8_bounds c) in
    lone_step (encode_utf8 c) rest some
    (escapable_special _ (differs c 0 110 (omega arith) other.0 some) (differs c 0 34 (omega arith) other.1 some) (differs c 0 92 (omega arith) other.2 some))
    ∙ ap (λ (end : List Letter). plain 92 ∷ end) (letters-char c rest other.2)

pub letters-after : (c : ℕ) (rest : List ℕ) → letters (92 ∷ (encode_utf8 c ++ rest)) ≡ after_backslash c ++ letters rest
letters-after c rest = after_step (is_escapable c) c rest refl

after_none : (b : Bool) (c : ℕ) → is_escapable c ≡ b → list_any is_bare_quote (cond b (escape c ∷ []) (plain 92 ∷ map plain (encode_utf8 c))) ≡ false
after_none true c can = refl
after_none false c cannot = no_bare_char c (specials c cannot).1

pub no_bare_after : (c : ℕ) → list_any is_bare_quote (after_backslash c) ≡ false
no_bare_after c = after_none (is_escapable c) c refl

no_bare_both : (xs ys : List Letter) → list_any is_bare_quote xs ≡ false → list_any is_bare_quote ys ≡ false → list_any is_bare_quote (xs ++ ys) ≡ false
no_bare_both xs ys first second = list_any-append is_bare_quote xs ys ∙ rw (first, second) refl

-- how far a text was read: the letters before, and what is left
pub record IsReadTo (text rest value : List ℕ) : Type 0 where
  pub front : List Letter
  pub split : letters text ≡ front ++ letters rest
  pub no_bare : list_any is_bare_quote front ≡ false
  pub is_meant : value ≡ map meant front

-- a step of the reader
pub read_more : (text rest left value written : List ℕ) (new : List Letter) → letters rest ≡ new ++ letters left → list_any is_bare_quote new ≡ false → written ≡ value ++ map meant new → IsReadTo text rest value → IsReadTo text left written
read_more text rest left value written new step none more so_far = record {
  front = so_far.front ++ new;
  split = so_far.split ∙ (ap (λ (end : List Letter). so_far.front ++ end) step ∙ sym (append_assoc so_far.front new (letters left)));
  no_bare = no_bare_both so_far.front new so_far.no_bare none;
  is_meant = more ∙ (ap (λ (part : List ℕ). part ++ map meant new) so_far.is_meant ∙ sym (map-append meant so_far.front new));
}

-- the character after a backslash
pub read_after : (text rest left value written : List ℕ) (b : Bool) (c : ℕ) → b ≡ true → rest ≡ encode_utf8 c ++ left → written ≡ value ++ map meant (after_backslash c) → IsReadTo text (cond b (92 ∷ rest) rest) value → IsReadTo text left written
read_after text rest left value written true c e step more so_far =
    read_more text (92 ∷ rest) left value written (after_backslash c) (ap (λ (bytes : List ℕ). letters (92 ∷ bytes)) step ∙ letters-after c left) (no_bare_after c) more so_far
read_after text rest left value written false c e step more so_far = absurd (false≢true e)

-- another character
pub read_char : (text rest left value written : List ℕ) (b : Bool) (c : ℕ) → b ≡ false → c ≢ 92 → c ≢ 34 → rest ≡ encode_utf8 c ++ left → written ≡ value ++ encode_utf8 c → IsReadTo text (cond b (92 ∷ rest) rest) value → IsReadTo text (cond b (92 ∷ left) left) written
read_char text rest left value written true c e no_backslash no_quote step more so_far = absurd (false≢true (sym e))
read_char text rest left value written false c e no_backslash no_quote step more so_far =
    read_more text rest left value written (map plain (encode_utf8 c)) (ap letters step ∙ letters-char c left no_backslash) (no_bare_char c no_quote)
    (more ∙ ap (λ (end : List ℕ). value ++ end) (sym (meant-plains (encode_utf8 c)))) so_far

-- a bare quote
pub read_quote : (text rest left value : List ℕ) (b : Bool) → b ≡ false → rest ≡ 34 ∷ left → IsReadTo text (cond b (92 ∷ rest) rest) value → IsMeantUntil text left value
read_quote text rest left value true e step so_far = absurd (false≢true (sym e))
read_quote text rest left value false e step so_far = grind arith

pub meant-after : (c : ℕ) → c ≢ 110 → c ≢ 34 → c ≢ 92 → map meant (after_backslash c) ≡ 92 ∷ encode_utf8 c
meant-after c no_n no_quote no_backslash = grind (arith, escapable_special, meant-plains)

spell_step : (b : Bool) (byte next : ℕ) (rest : List ℕ) → (byte == 92 && is_escapable next) ≡ b → flat_map spelled (letters rest) ≡ rest → flat_map spelled (letters (next ∷ rest)) ≡ next ∷ rest
    → flat_map spelled (cond b (escape next ∷ letters rest) (plain byte ∷ letters (next ∷ rest))) ≡ byte ∷ next ∷ rest
spell_step true byte next rest e past here = grind arith
spell_step false byte next rest e past here = ap (λ (end : List ℕ). byte ∷ end) here

pub letters_spell : LettersSpellTheText
letters_spell [] = refl
letters_spell (byte ∷ []) = refl
letters_spell (byte ∷ next ∷ rest) =
    spell_step (byte == 92 && is_escapable next) byte next rest refl (letters_spell rest) (letters_spell (next ∷ rest))
