-- The instant of a time text, by jiff's Temporal reader.
use Rattle.std.specs.Prelude.{◌≡◌, ℕ, ℤ, pos, negsuc, ◌+ℤ◌, List, [], ◌∷◌, if◌then◌else◌, nat_eq}
use Rattle.std.specs.Prelude.{Option, Some, None, Result, Ok, Err, option_map}
use Rattle.jiff.specs.Words.{Error, parse_timestamp}
use Rattle.am_alert.specs.declared.time_text.TimeFault.{TimeFault}
use Rattle.am_alert.specs.declared.time_text.TimeFault.TheVariants.{BadTime, NoMemory}

-- the nanoseconds from 0001-01-01T00:00:00Z to 1970-01-01T00:00:00Z
abbrev pub year_1970 : ℕ
year_1970 = 62_135_596_800_000_000_000

-- an instant isn't before the year 1
abbrev pub from_year_one : ℤ → Option ℕ
from_year_one (pos n) = Some n
from_year_one (negsuc n) = None

-- the instant of what jiff read, if it read one
abbrev pub instant_of : Result ℤ Error → Option ℕ
instant_of (Ok nanosecond) = from_year_one (nanosecond +ℤ pos year_1970)
instant_of (Err e) = None

-- what reading an instant's text answers
abbrev pub ReadsMoment : List ℕ → Result ℕ TimeFault → Type 0
ReadsMoment text (Ok moment) = instant_of (parse_timestamp text) ≡ Some moment
ReadsMoment text (Err BadTime) = instant_of (parse_timestamp text) ≡ None
ReadsMoment text (Err NoMemory) = ⊥

-- what a time text gives, if it is readable: an instant, or that the time is absent, as 0001-01-01T00:00:00Z
-- counts, Go's zero time
abbrev pub time_of : List ℕ → Option (Option ℕ)
time_of [] = Some None
time_of (c ∷ cs) =
    option_map (λ n. if nat_eq n 0 then None else Some n) (instant_of (parse_timestamp (c ∷ cs)))

-- what reading a time text answers
abbrev pub ReadsTime : List ℕ → Result (Option ℕ) TimeFault → Type 0
ReadsTime text (Ok time) = time_of text ≡ Some time
ReadsTime text (Err BadTime) = time_of text ≡ None
ReadsTime text (Err NoMemory) = ⊥
