-- Dates counted one day at a time are those of jiff's day numbers.
use Rattle.std.proofs.Common.{◌≡◌, ℕ, zero, suc, ◌+◌, ◌/◌, ◌%◌, ◌<◌, ◌≤◌, true, false, Bool, cond, add-one, pos, ℤ, ◌-ℤ◌, refl, sym, ap, subst, ◌∙◌, arith, inl, inr}
use Rattle.std.specs.Prelude.{nat_lt}
use Rattle.std.proofs.lemmas.Bool.{cases_order}
use Rattle.std.proofs.lemmas.Int.{by_lt_z}
use Rattle.jiff_core.proofs.SignedLemmas.{signed_arith, back_small}
use borrow.Author.Tests.{ltb-true, ltb-false}
use Rattle.jiff_core.specs.Calendar.{IsCivilDate, days_in_month, day_count}
use Rattle.jiff_core.proofs.CalendarLemmas.{day_count-lt_year, day_count-lt_month, day_count-day, day_count-next_month, day_count-next_year, day_count-last_of_year, days_in_month_bounds}
use Rattle.jiff_core.proofs.MarchLemmas.{day_count-early}
use Rattle.jiff_core.specs.declared.civil.datetime.DateTime.{DateTime}
use Rattle.jiff_core.specs.declared.civil.date.Date.{Date as JiffDate}
use Rattle.jiff_core.specs.declared.civil.time.Time.{Time}
use mir.Syntax.{w16}
use mir.Val.{to_z, of_z}
use Rattle.jiff_core.specs.DateTime.{civil_nanos}
use Rattle.jiff_core.specs.Time.{time_nanos}
use Rattle.jiff_core.proofs.CalendarLemmas.{days_from_civil-day_count}
use Rattle.jiff_core.proofs.DateTimeLemmas.{civil_nanos-parts, time_nanos_bound}
use Rattle.am_alert.specs.Calendar.{Date, next_date, date_after, parts_of}

-- a date of the calendar, with the days from 0001-01-01 to it
pub record IsDateAfter (days : ℕ) (date : Date) : Type 0 where
  pub year_in : 1 ≤ date.year
  pub month_low : 1 ≤ date.month
  pub month_high : date.month ≤ 12
  pub day_low : 1 ≤ date.day
  pub day_high : date.day ≤ days_in_month (pos date.year) date.month
  pub count : day_count (pos date.year) date.month date.day ≡ days + 3_652_791

first_count : day_count (pos 1) 1 1 ≡ 3_652_791
first_count = day_count-early _ 10000 1 1 refl (omega arith) (omega arith) (omega arith)

pub by_bool : {P : Type 0} (b : Bool) → (b ≡ true → P) → (b ≡ false → P) → P
by_bool true p q = p refl
by_bool false p q = q refl

chosen : {A : Type 0} (b : Bool) (x y : A) → b ≡ true → cond b x y ≡ x
chosen b x y e = ap (λ b. cond b x y) e

passed : {A : Type 0} (b : Bool) (x y : A) → b ≡ false → cond b x y ≡ y
passed b x y e = ap (λ b. cond b x y) e

next_day : Date → Date
next_day date = record date { day = date.day + 1 }

next_month : Date → Date
next_month date = record { year = date.year; month = date.month + 1; day = 1 }

next_year : Date → Date
next_year date = record { year = date.year + 1; month = 1; day = 1 }

day_is : (days : ℕ) (date : Date) → IsDateAfter days date → date.day < days_in_month (pos date.year) date.month → IsDateAfter (days + 1) (next_day date)
unfolding next_day
day_is days date is lt = grind (arith, day_count-day)

month_is : (days : ℕ) (date : Date) → IsDateAfter days date → date.day ≡ days_in_month (pos date.year) date.month → date.month < 12 → IsDateAfter (days + 1) (next_month date)
unfolding next_month
month_is days date is last lt = grind (arith, days_in_month_bounds, day_count-next_month, day_count-day)

year_is : (days : ℕ) (date : Date) → IsDateAfter days date → date.day ≡ days_in_month (pos date.year) date.month → date.month ≡ 12 → IsDateAfter (days + 1) (next_year date)
unfolding next_year
year_is days date is last december =
    let y = pos date.year in
    let end : date.day ≡ 31 = last ∙ ap (days_in_month y) december in
    let whole : day_count y 12 31 ≡ days + 3_652_791 = ap (λ m. day_count y m 31) (sym december) ∙ (ap (day_count y date.month) (sym end) ∙ is.count) in
    record {
      year_in = omega arith;
      month_low = omega arith;
      month_high = omega arith;
      day_low = omega arith;
      day_high = let long = (days_in_month_bounds (pos (date.year + 1)) 1).1 in omega arith;
      count = omega (arith, whole, day_count-next_year y (pos (date.year + 1)) (omega (arith, signed_arith)) (omega (arith, signed_arith)), day_count-last_of_year y);
    }

-- the date that follows is one day later
next_is : (days : ℕ) (date : Date) → IsDateAfter days date → IsDateAfter (days + 1) (next_date date)
unfolding next_day next_month next_year
next_is days date is =
    let more = nat_lt date.day (days_in_month (pos date.year) date.month) in
    let early = nat_lt date.month 12 in
    by_bool {P = IsDateAfter (days + 1) (next_date date)} more
    (λ e. subst (IsDateAfter (days + 1)) (sym (chosen more (next_day date) (cond early (next_month date) (next_year date)) e)) (day_is days date is (ltb-true _ _ e)))
    (λ e.
    let last : date.day ≡ days_in_month (pos date.year) date.month = omega (arith, ltb-false _ _ e, is.day_high) in
    by_bool {P = IsDateAfter (days + 1) (next_date date)} early
    (λ f. subst (IsDateAfter (days + 1)) (sym (passed more (next_day date) (cond early (next_month date) (next_year date)) e ∙ chosen early (next_month date) (next_year date) f)) (month_is days date is last (ltb-true _ _ f)))
    (λ f. subst (IsDateAfter (days + 1)) (sym (passed more (next_day date) (cond early (next_month date) (next_year date)) e ∙ passed early (next_month date) (next_year date) f)) (year_is days date is last (omega (arith, ltb-false _ _ f, is.month_high)))))

pub date_after_is : (days : ℕ) → IsDateAfter days (date_after days)
unfolding date_after
date_after_is zero = record { year_in = omega arith; month_low = omega arith; month_high = omega arith; day_low = omega arith; day_high = omega arith; count = first_count }
date_after_is (suc days) = subst (λ n. IsDateAfter n (next_date (date_after days))) (add-one days) (next_is days (date_after days) (date_after_is days))

-- a date of jiff's with that many days is that date
pub same_date : (days : ℕ) (date : Date) → IsDateAfter days date → (y : ℤ) (m d : ℕ) → IsCivilDate y m d → day_count y m d ≡ days + 3_652_791 → (y ≡ pos date.year) × (m ≡ date.month) × (d ≡ date.day)
same_date days date is y m d civil count =
    by_lt_z y (pos date.year)
    (λ lt. absurd (omega (arith, count, is.count, day_count-lt_year y m d (pos date.year) date.month date.day civil is.day_low lt)))
    (λ ge. by_lt_z (pos date.year) y
    (λ gt.
    let own : IsCivilDate (pos date.year) date.month date.day = ((omega (arith, signed_arith), omega (arith, signed_arith)), (is.month_low, is.month_high), (is.day_low, is.day_high)) in
    absurd (omega (arith, count, is.count, day_count-lt_year (pos date.year) date.month date.day y m d own civil.2.0 gt)))
    (λ le.
    let year : y ≡ pos date.year = omega (arith, signed_arith) in
    let here : day_count (pos date.year) m d ≡ days + 3_652_791 = ap (λ z. day_count z m d) (sym year) ∙ count in
    let there : IsCivilDate (pos date.year) m d = subst (λ z. IsCivilDate z m d) year civil in
    elim (cases_order m date.month) [
      | inl month ↦
          let now : day_count (pos date.year) date.month d ≡ days + 3_652_791 = ap (λ n. day_count (pos date.year) n d) (sym month) ∙ here in
          (year, month, omega (arith, now, is.count, day_count-day (pos date.year) date.month d date.day civil.2.0 is.day_low))
      | inr (inl lt) ↦ absurd (omega (arith, here, is.count, day_count-lt_month (pos date.year) m d date.month date.day there is.day_low lt))
      | inr (inr gt) ↦
          let own : IsCivilDate (pos date.year) date.month date.day = (there.0, (is.month_low, is.month_high), (is.day_low, is.day_high)) in
          absurd (omega (arith, here, is.count, day_count-lt_month (pos date.year) date.month date.day m d own civil.2.0 gt))
    ]))

-- what jiff's clock in UTC shows at an instant from the year 1 on
pub parts_same : (n : ℕ) (shown : DateTime) → civil_nanos shown ≡ pos n -ℤ pos 62_135_596_800_000_000_000 → (shown.date.year ≡ pos (parts_of n).year) × (shown.date.month ≡ (parts_of n).month) × (shown.date.day ≡ (parts_of n).day) × (time_nanos shown.time ≡ n % 86_400_000_000_000)
parts_same n shown e =
    let days = n / 86_400_000_000_000 in
    let civil : IsCivilDate shown.date.year shown.date.month shown.date.day = (shown.date.year_in, shown.date.month_in, shown.date.day_in) in
    let parts = civil_nanos-parts shown in
    let within = time_nanos_bound shown.time in
    let count : day_count shown.date.year shown.date.month shown.date.day ≡ days + 3_652_791 = omega (arith, signed_arith, parts, e, within, days_from_civil-day_count shown.date.year shown.date.month shown.date.day) in
    let same = same_date days (date_after days) (date_after_is days) shown.date.year shown.date.month shown.date.day civil count in
    (same.0, same.1, same.2, omega (arith, signed_arith, parts, e, within, days_from_civil-day_count shown.date.year shown.date.month shown.date.day))

-- a year fits the bits that hold it
pub year_back : (z : ℤ) (n : ℕ) → z ≡ pos n → n < 10000 → to_z w16 (of_z w16 z) ≡ pos n
year_back z n e h = ap (λ z. to_z w16 (of_z w16 z)) e ∙ back_small w16 (pos n) (omega arith)

pub year_bound : (date : JiffDate) (n : ℕ) → date.year ≡ pos n → n < 10000
year_bound date n e = let known = date.year_in in omega (arith, signed_arith)

-- the time of day in its parts
pub record HasTime (time : Time) (n : ℕ) : Type 0 where
  pub hour : time.hour ≡ n / 3_600_000_000_000
  pub minute : time.minute ≡ n / 60_000_000_000 % 60
  pub second : time.second ≡ n / 1_000_000_000 % 60
  pub nanosecond : time.subsec_nanosecond ≡ n % 1_000_000_000

pub time_parts : (time : Time) (n : ℕ) → time_nanos time ≡ n → HasTime time n
time_parts time n e = grind arith
