-- The date and the time of day of an instant, in UTC, by the Gregorian calendar counted back to the year 1.
use Rattle.std.specs.Prelude.{ℕ, zero, suc, ◌+◌, ◌/◌, ◌%◌, ◌==◌, ◌&&◌, ◌||◌, Bool, not, if◌then◌else◌, nat_lt}
use Rattle.am_alert.specs.declared.civil_time.CivilTime.{CivilTime}

-- a date of that calendar: its year, its month from 1 and its day of the month from 1
pub record Date : Type 0 where
  pub year : ℕ
  pub month : ℕ
  pub day : ℕ

-- whether a year is a leap year: each fourth is, of the hundredth ones only each fourth
abbrev pub is_leap_year : ℕ → Bool
is_leap_year year = (year % 4 == 0) && (not (year % 100 == 0) || (year % 400 == 0))

-- how many days a month has: February 28, or 29 in a leap year; April, June, September and November 30, the
-- others 31
abbrev pub days_in_month : ℕ → ℕ → ℕ
days_in_month year month =
    if month == 2 then (if is_leap_year year then 29 else 28)
    else (if (month == 4) || (month == 6) || (month == 9) || (month == 11) then 30 else 31)

-- the date that follows
abbrev pub next_date : Date → Date
next_date date =
    if nat_lt date.day (days_in_month date.year date.month) then record date { day = date.day + 1 }
    else (if nat_lt date.month 12 then record { year = date.year; month = date.month + 1; day = 1 }
    else record { year = date.year + 1; month = 1; day = 1 })

-- the date that many days after 0001-01-01
unfoldable pub date_after : ℕ → Date
date_after zero = record { year = 1; month = 1; day = 1 }
date_after (suc days) = next_date (date_after days)

-- what a calendar and a clock in UTC show at an instant
abbrev pub parts_of : ℕ → CivilTime
parts_of nanoseconds =
    let date = date_after (nanoseconds / 86_400_000_000_000) in
    let time = nanoseconds % 86_400_000_000_000 in
    record {
      year = date.year;
      month = date.month;
      day = date.day;
      hour = time / 3_600_000_000_000;
      minute = time / 60_000_000_000 % 60;
      second = time / 1_000_000_000 % 60;
      nanosecond = time % 1_000_000_000;
    }
