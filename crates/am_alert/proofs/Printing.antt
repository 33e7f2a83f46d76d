-- Facts about the words of specs/Printing.antt.
use Rattle.std.proofs.Common.{◌≡◌, ℕ, pos, zero, suc, ◌+◌, ◌*◌, ◌/◌, ◌%◌, ◌^◌, ◌<◌, ◌≤◌, ◌-ℤ◌, false, List, [], ◌∷◌, ◌++◌, Option, Some, None, refl, sym, ap, ◌∙◌, arith, length-append, append_assoc, ne_eqb}
use Rattle.std.specs.Prelude.{◌==◌, if◌then◌else◌, replicate}
use Rattle.std.proofs.lemmas.Fmt.{decimal_digit, decimal_step}
use Rattle.std.proofs.lemmas.Bool.{cases_order}
use Rattle.std.proofs.Math.Nat.{div-div-eq-div-mul, mod-lt}
use Rattle.jiff_core.specs.DateTime.{civil_nanos}
use Rattle.jiff_core.proofs.CalendarLemmas.{days_in_month_bounds}
use Rattle.jiff_core.specs.declared.civil.datetime.DateTime.{DateTime}
use Rattle.jiff_fmt.specs.Text.{pad2, pad4, places, datetime_text, fraction_part}
use Rattle.jiff_fmt.proofs.ReaderLemmas.{tenth, ten_pow-pos}
use Rattle.jiff_fmt.proofs.TextLemmas.{replicate-end, places-step, places-end, tenth_place}
use Rattle.am_alert.specs.Calendar.{parts_of}
use Rattle.am_alert.specs.Printing.{zero_padded, fraction_text, moment_text}
use Rattle.am_alert.proofs.Dates.{parts_same, time_parts, year_bound}

-- the last k digits of a number
abbrev last_digits : ℕ → ℕ → List ℕ
last_digits zero n = []
last_digits (suc k) n = last_digits k (n / 10) ++ (48 + n % 10) ∷ []

digits_of_zero : (k : ℕ) → last_digits k 0 ≡ replicate k 48
digits_of_zero zero = refl
digits_of_zero (suc k) = ap (λ (ds : List ℕ). ds ++ 48 ∷ []) (digits_of_zero k) ∙ sym (replicate-end k 48)

one_digit : (k n : ℕ) → n < 10 → zero_padded (suc k) n ≡ last_digits (suc k) n
one_digit k n low = grind (arith, decimal_digit, digits_of_zero)

more_digits : (k n : ℕ) → 10 ≤ n → n < 2 ^ 64 → zero_padded (suc k) n ≡ zero_padded k (n / 10) ++ (48 + n % 10) ∷ []
more_digits k n above small = grind (arith, length-append, decimal_step, append_assoc)

padded_is_last : (k n : ℕ) → n < 10 ^ suc k → n < 2 ^ 64 → zero_padded (suc k) n ≡ last_digits (suc k) n
padded_is_last zero n high small = one_digit zero n (omega arith)
padded_is_last (suc k) n high small =
    let rest = padded_is_last k (n / 10) in
    grind (arith, tenth, more_digits, cases_order, one_digit)

low_digits : (n p : ℕ) → 0 < p → (n % (10 * p) / 10 ≡ n / 10 % p) × (n % (10 * p) % 10 ≡ n % 10)
low_digits n p some = grind arith

first_digit : (k n : ℕ) → n < 10 ^ suc k → last_digits (suc k) n ≡ (48 + n / 10 ^ k) ∷ last_digits k (n % 10 ^ k)
first_digit zero n h = grind arith
first_digit (suc k) n h = let rest = first_digit k (n / 10) in grind (arith, tenth, low_digits, ten_pow-pos, div-div-eq-div-mul)

places_are_last : (k n : ℕ) → n < 10 ^ k → places k (10 ^ k) n ≡ last_digits k n
places_are_last zero n h = places-end 0 (10 ^ 0) n refl
places_are_last (suc k) n h =
    let step = places-step (suc k) k (10 ^ suc k) n refl in
    let tens : 10 ^ suc k / 10 ≡ 10 ^ k = tenth_place (suc k) k refl in
    let others = places_are_last k (n % 10 ^ k) (mod-lt n (ten_pow-pos k)) in
    step ∙ rw (tens, others) (sym (first_digit k n h))

pad2_is : (n : ℕ) → n < 100 → pad2 n ≡ zero_padded 2 n
pad2_is n h = grind (arith, padded_is_last)

pad4_is : (n : ℕ) → n < 10000 → pad4 n ≡ zero_padded 4 n
pad4_is n h = grind (arith, padded_is_last)

places_are : (n : ℕ) → n < 1_000_000_000 → places 9 1_000_000_000 n ≡ zero_padded 9 n
places_are n h = places_are_last 9 n (omega arith) ∙ sym (padded_is_last 8 n (omega arith) (omega arith))

-- the places of a second that jiff is asked for
abbrev pub places_wanted : ℕ → Option ℕ
places_wanted n = if n % 1_000_000_000 == 0 then None else Some 9

pub whole_second : (n : ℕ) → n % 1_000_000_000 ≡ 0 → None ≡ places_wanted n
whole_second n e = rw e refl

pub part_of_second : (n : ℕ) → (n % 1_000_000_000 ≡ 0 → ⊥) → Some 9 ≡ places_wanted n
part_of_second n e = rw (ne_eqb _ _ e) refl

fraction_is : (n : ℕ) → n < 1_000_000_000 → fraction_part (if n == 0 then None else Some 9) n ≡ fraction_text n
fraction_is n h = grind (arith, places_are)

joined : (y y' m m' d d' h h' i i' s s' f f' : List ℕ) → y ≡ y' → m ≡ m' → d ≡ d' → h ≡ h' → i ≡ i' → s ≡ s' → f ≡ f'
    → (y ++ 45 ∷ [] ++ m ++ 45 ∷ [] ++ d ++ (84 ∷ (h ++ 58 ∷ i ++ 58 ∷ s ++ f))) ++ 90 ∷ []
    ≡ (y' ++ (45 ∷ m' ++ (45 ∷ d' ++ (84 ∷ h' ++ (58 ∷ i' ++ (58 ∷ s')))))) ++ (f' ++ 90 ∷ [])
joined y y' m m' d d' h h' i i' s s' f f' a b c e g k l = rw (a, b, c, e, g, k, l) (simp append_assoc refl)

-- what jiff prints of an instant in UTC, with nine places of a second or none
pub moment_text_is : (n : ℕ) (shown : DateTime) (wanted : Option ℕ) → civil_nanos shown ≡ pos n -ℤ pos 62_135_596_800_000_000_000
    → wanted ≡ places_wanted n → datetime_text false 84 wanted shown ++ 90 ∷ [] ≡ moment_text n
moment_text_is n shown wanted is asked =
    let p = parts_of n in
    let same = parts_same n shown is in
    let time = time_parts shown.time (n % 86_400_000_000_000) same.3 in
    let date_in = shown.date.month_in in
    let day_in = shown.date.day_in in
    let long = (days_in_month_bounds shown.date.year shown.date.month).0 in
    let rest : n % 1_000_000_000 ≡ n % 86_400_000_000_000 % 1_000_000_000 = omega arith in
    let whole : wanted ≡ (if p.nanosecond == 0 then None else Some 9) = asked ∙ ap (λ (m : ℕ). if m == 0 then None else Some 9) rest in
    let fraction : fraction_part wanted shown.time.subsec_nanosecond ≡ fraction_text p.nanosecond =
    ap (λ (w : Option ℕ). fraction_part w shown.time.subsec_nanosecond) whole
    ∙ (ap (λ (m : ℕ). fraction_part (if p.nanosecond == 0 then None else Some 9) m) time.nanosecond ∙ fraction_is p.nanosecond (omega arith)) in
    grind (arith, joined, pad4_is, year_bound, pad2_is)
