-- The first line feed of a text.
use Rattle.std.proofs.Common.{◌≡◌, ◌∙◌, ℕ, ◌<◌, ◌≤◌, Bool, true, false, cond, ltb, List, length, Option, Some, None, refl, sym, ap, arith}
use Rattle.std.specs.List.{position, position_or_len}
use Rattle.std.proofs.Math.Logic.{⊎_elim}
use Rattle.std.proofs.lemmas.Bool.{cases_lt, true≢false}
use Rattle.std.proofs.lemmas.Bool.Decides.{Decides-ltb}
use Rattle.std.proofs.lemmas.List.Sums.{fails_before_first, passes_at_first}
use Rattle.memchr.specs.Find.{IsFirstByte, is_byte}
use Rattle.am_script.specs.Script.{is_line_feed}

none_at : (inside : Bool) (n : ℕ) → (inside ≡ true → ⊥) → None ≡ cond inside (Some n) None
none_at true n never = absurd (never refl)
none_at false n never = refl

some_at : (inside : Bool) (n k : ℕ) → inside ≡ true → k ≡ n → Some k ≡ cond inside (Some n) None
some_at true n k is same = ap Some same
some_at false n k is same = absurd (true≢false (sym is))

pub first_feed : (bytes : List ℕ) (r : Option ℕ) → IsFirstByte (is_byte 10) bytes r → r ≡ position is_line_feed bytes
first_feed bytes None h =
    let end = position_or_len is_line_feed bytes in
    none_at (ltb end (length bytes)) end
    (λ is. let inside = (Decides-ltb end (length bytes)).0 is in h end (omega arith) inside (passes_at_first is_line_feed bytes 0 inside))
first_feed bytes (Some k) h =
    let end = position_or_len is_line_feed bytes in
    let high = h.0.high in
    let up_to : end ≤ k =
    ⊎_elim
    (λ below. absurd (true≢false (sym h.1 ∙ fails_before_first is_line_feed bytes k 0 below)))
    (λ above. above)
    (cases_lt k end) in
    let from : k ≤ end =
    ⊎_elim
    (λ (below : end < k). let inside : end < length bytes = omega (arith, below, high) in absurd (h.0.before end (omega arith) below (passes_at_first is_line_feed bytes 0 inside)))
    (λ above. above)
    (cases_lt end k) in
    let inside : end < length bytes = omega (arith, up_to, high, from) in
    some_at (ltb end (length bytes)) end k ((Decides-ltb end (length bytes)).1 inside) (omega (arith, up_to, from))
