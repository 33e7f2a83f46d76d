-- The plain form of a moment's text is what jiff prints, so jiff's reader reads it.
use Rattle.std.proofs.Common.{false, ◌≡◌, ℕ, pos, zero, suc, ◌+◌, ◌*◌, ◌/◌, ◌%◌, ◌<◌, List, [], ◌∷◌, ◌++◌, None, Result, Ok, Err, IfOk, IfSome, ◌-ℤ◌, length, drop, slice_index, refl, sym, ap, ◌∙◌, arith}
use Rattle.std.proofs.lemmas.List.{drop_all}
use Rattle.jiff_core.specs.declared.civil.datetime.DateTime.{DateTime}
use Rattle.jiff_core.specs.declared.timestamp.Timestamp.{Timestamp}
use Rattle.jiff_core.specs.declared.error.Error.{Error}
use Rattle.jiff_core.specs.DateTime.{civil_nanos}
use Rattle.jiff_core.specs.Timestamp.{nanos_of_seconds}
use Rattle.jiff_core.proofs.SignedLemmas.{signed_arith}
use Rattle.std.specs.Result.{result_ok}
use Rattle.jiff_fmt.specs.Text.{pad2, pad4, year_text, datetime_text, zulu_text, fraction_part}
use Rattle.jiff.specs.Words.{parse_timestamp}
use Rattle.jiff.proofs.Family.{parse_timestamp-text}

-- the items of a list, from an index on
abbrev items_from : ℕ → ℕ → List ℕ → List ℕ
items_from k zero xs = []
items_from k (suc n) xs = slice_index xs k ∷ items_from (suc k) n xs

item_at : (xs : List ℕ) (k : ℕ) → k < length xs → drop k xs ≡ slice_index xs k ∷ drop (suc k) xs
item_at [] k short = absurd (omega (arith, short))
item_at (x ∷ xs) zero short = refl
item_at (x ∷ xs) (suc k) short = item_at xs k (omega (arith, short))

all_items : (n k : ℕ) (xs : List ℕ) → length xs ≡ k + n → drop k xs ≡ items_from k n xs
all_items zero k xs long = drop_all k xs (omega (arith, long))
all_items (suc n) k xs long =
    item_at xs k (omega (arith, long)) ∙ ap (λ rest. slice_index xs k ∷ rest) (all_items n (suc k) xs (omega (arith, long)))

-- the text of a date and a time, by the texts of their numbers
printed : List ℕ → List ℕ → List ℕ → List ℕ → List ℕ → List ℕ → List ℕ → List ℕ
printed year month day hour minute second fraction =
    ((year ++ 45 ∷ [] ++ month ++ 45 ∷ [] ++ day) ++ 84 ∷ (hour ++ 58 ∷ minute ++ 58 ∷ second ++ fraction)) ++ 90 ∷ []

year_written : (high low : ℕ) → low < 100 → pad4 (high * 100 + low) ≡ pad2 high ++ pad2 low
year_written high low small =
    let first : (high * 100 + low) / 100 ≡ high = omega (arith, small) in
    let second : (high * 100 + low) % 100 ≡ low = omega (arith, small) in
    ap (λ n. pad2 n ++ pad2 ((high * 100 + low) % 100)) first ∙ ap (λ n. pad2 high ++ pad2 n) second

-- what reading twenty bytes as a date and a time finds: the bytes that are printed of it
pub record IsReadAs (xs : List ℕ) (dt : DateTime) : Type 0 where
  pub high : ℕ
  pub low : ℕ
  pub small : low < 100
  pub long : length xs ≡ 20
  pub year : dt.date.year ≡ pos (high * 100 + low)
  pub whole : dt.time.subsec_nanosecond ≡ 0
  pub century : pad2 high ≡ slice_index xs 0 ∷ slice_index xs 1 ∷ []
  pub of_century : pad2 low ≡ slice_index xs 2 ∷ slice_index xs 3 ∷ []
  pub month : pad2 dt.date.month ≡ slice_index xs 5 ∷ slice_index xs 6 ∷ []
  pub day : pad2 dt.date.day ≡ slice_index xs 8 ∷ slice_index xs 9 ∷ []
  pub hour : pad2 dt.time.hour ≡ slice_index xs 11 ∷ slice_index xs 12 ∷ []
  pub minute : pad2 dt.time.minute ≡ slice_index xs 14 ∷ slice_index xs 15 ∷ []
  pub second : pad2 dt.time.second ≡ slice_index xs 17 ∷ slice_index xs 18 ∷ []
  pub after_year : slice_index xs 4 ≡ 45
  pub after_month : slice_index xs 7 ≡ 45
  pub after_day : slice_index xs 10 ≡ 84
  pub after_hour : slice_index xs 13 ≡ 58
  pub after_minute : slice_index xs 16 ≡ 58
  pub after_second : slice_index xs 19 ≡ 90

same_printed : {a b c d e f g h i j k l m n : List ℕ} → a ≡ h → b ≡ i → c ≡ j → d ≡ k → e ≡ l → f ≡ m → g ≡ n → printed a b c d e f g ≡ printed h i j k l m n
same_printed o p q r s t u = (cc)

printed_text : (dt : DateTime) → printed (year_text dt.date.year) (pad2 dt.date.month) (pad2 dt.date.day) (pad2 dt.time.hour) (pad2 dt.time.minute) (pad2 dt.time.second) (fraction_part None dt.time.subsec_nanosecond)
    ≡ datetime_text false 84 None dt ++ zulu_text false
unfolding printed
printed_text dt = refl

all_marks : (xs : List ℕ) → slice_index xs 4 ≡ 45 → slice_index xs 7 ≡ 45 → slice_index xs 10 ≡ 84 → slice_index xs 13 ≡ 58 → slice_index xs 16 ≡ 58 → slice_index xs 19 ≡ 90
    → items_from 0 20 xs ≡ printed (slice_index xs 0 ∷ slice_index xs 1 ∷ slice_index xs 2 ∷ slice_index xs 3 ∷ []) (slice_index xs 5 ∷ slice_index xs 6 ∷ []) (slice_index xs 8 ∷ slice_index xs 9 ∷ [])
    (slice_index xs 11 ∷ slice_index xs 12 ∷ []) (slice_index xs 14 ∷ slice_index xs 15 ∷ []) (slice_index xs 17 ∷ slice_index xs 18 ∷ []) []
unfolding printed
all_marks xs a b c d e f = (cc)

text_is : (xs : List ℕ) (dt : DateTime) → IsReadAs xs dt → xs ≡ datetime_text false 84 None dt ++ zulu_text false
text_is xs dt is =
    let year : year_text dt.date.year ≡ slice_index xs 0 ∷ slice_index xs 1 ∷ slice_index xs 2 ∷ slice_index xs 3 ∷ [] =
    ap year_text is.year ∙ (year_written is.high is.low is.small ∙ (ap (λ front. front ++ pad2 is.low) is.century ∙ ap (λ back. slice_index xs 0 ∷ slice_index xs 1 ∷ back) is.of_century)) in
    let whole : fraction_part None dt.time.subsec_nanosecond ≡ [] = ap (fraction_part None) is.whole in
    all_items 20 0 xs is.long
    ∙ (all_marks xs is.after_year is.after_month is.after_day is.after_hour is.after_minute is.after_second
    ∙ (sym (same_printed year is.month is.day is.hour is.minute is.second whole) ∙ printed_text dt))

-- so jiff reads it as the instant of that date and time in UTC
pub plain_read : (xs : List ℕ) (dt : DateTime) (given : Result Timestamp Error) → IsReadAs xs dt → IfOk given (λ instant. instant.nanosecond ≡ civil_nanos dt -ℤ nanos_of_seconds (pos 0))
    → IfSome (result_ok given) (λ instant. parse_timestamp xs ≡ Ok instant.nanosecond)
plain_read xs dt (Ok instant) is nanos =
    let same : civil_nanos dt ≡ instant.nanosecond = omega (arith, signed_arith, nanos) in
    ap parse_timestamp (text_is xs dt is) ∙ parse_timestamp-text dt instant same
plain_read xs dt (Err e) is nanos = tt
