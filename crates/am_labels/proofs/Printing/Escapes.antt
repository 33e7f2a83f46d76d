-- A character escaped is its bytes escaped, since the bytes of a character past ASCII are past it too.
use Rattle.std.proofs.Common.{◌≡◌, ◌≢◌, ℕ, suc, ◌<◌, List, [], ◌∷◌, ◌++◌, length, get_or, encode_utf8, refl, sym, ap, ◌∙◌, arith, append-nil, append_assoc, Bool, true, false, Option, Some, None, not, rules}
use Rattle.std.specs.Prelude.{IsTrue, is_some}
use Rattle.std.proofs.lemmas.Bool.Decides.{nat_tests}
use Rattle.std.proofs.lemmas.Grind.{flat_map-append}
use Rattle.std.proofs.lemmas.Str.{inside_one}
use Rattle.memchr.specs.Find.{IsFirstByte, is_byte3}
use Rattle.am_labels.specs.Printing.{escaped, escaped_all}

pub record IsOrdinary (byte : ℕ) : Type 0 where
  pub no_quote : byte ≢ 34
  pub no_backslash : byte ≢ 92
  pub no_line_feed : byte ≢ 10

escaped_ordinary : (byte : ℕ) → IsOrdinary byte → escaped byte ≡ byte ∷ []
escaped_ordinary byte is = grind arith

escaped_all_ordinary : (bytes : List ℕ) → ((k : ℕ) → k < length bytes → IsOrdinary (get_or bytes k 0)) → escaped_all bytes ≡ bytes
escaped_all_ordinary [] is = refl
escaped_all_ordinary (byte ∷ bytes) is =
    ap (λ (front : List ℕ). front ++ escaped_all bytes) (escaped_ordinary byte (is 0 (omega arith)))
    ∙ ap (λ (rest : List ℕ). byte ∷ rest) (escaped_all_ordinary bytes (λ k short. is (suc k) (omega arith)))

-- a byte of a character is no special one, if the character isn't
differs : (c k special : ℕ) → special < 128 → c ≢ special → k < length (encode_utf8 c) → get_or (encode_utf8 c) k 0 ≢ special
differs c k special ascii other short is =
    other (inside_one c [] (encode_utf8 c) k (sym (append-nil (encode_utf8 c))) short (omega arith) ∙ is)

pub escaped_char : (c : ℕ) → IsOrdinary c → encode_utf8 c ≡ escaped_all (encode_utf8 c)
escaped_char c is = search (rules, escaped_all_ordinary, differs)

-- a loop's step: what was written, then this character, and what is left
pub escaped_more : (written rest left all : List ℕ) (c : ℕ) → rest ≡ encode_utf8 c ++ left → written ++ escaped_all rest ≡ all → (written ++ escaped_all (encode_utf8 c)) ++ escaped_all left ≡ all
escaped_more written rest left all c step so_far = grind (arith, append_assoc, flat_map-append)

-- a text with no quote, backslash or line feed is printed as it is
pub plain_text : (text : List ℕ) (found : Option ℕ) (none : Bool) → IsFirstByte (is_byte3 34 92 10) text found → is_some found ≡ not none → IsTrue none → escaped_all text ≡ text
plain_text text None none first told taken = grind (arith, escaped_all_ordinary, nat_tests)
plain_text text (Some k) true first told taken = let z : ◌≡◌ {A = ℕ} 0 1 = cc in absurd (omega (arith, z))
plain_text text (Some k) false first told taken = let z : ◌≡◌ {A = ℕ} 0 1 = cc in absurd (omega (arith, z))
