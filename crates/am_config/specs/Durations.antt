-- Durations, as `5m` or `1h30m` (Prometheus's `model.ParseDuration`).
use Rattle.std.specs.Prelude.{◌≡◌, ◌⊎◌, ◌<◌, ◌≤◌, true, ℕ, ◌+◌, ◌*◌, List, [], ◌∷◌, ◌++◌, codes, length}
use Rattle.std.specs.Prelude.{sum_by, ⊤}
use Rattle.std.specs.List.{flat_map, list_all}
use Rattle.std.specs.Char.{is_ascii_digit}
use Rattle.std.specs.Str.Parse.{digits_value}
use Rattle.am_config.specs.declared.duration.Unit.{Unit}
use Rattle.am_config.specs.declared.duration.Unit.TheVariants.{Year, Week, Day, Hour, Minute, Second}
use Rattle.am_config.specs.declared.duration.Unit.TheVariants.{Millisecond}
use Rattle.am_config.specs.declared.duration.TheConstants.{MAX_MILLISECONDS}

-- how a unit is written
abbrev pub symbol_of : Unit → List ℕ
symbol_of Year = codes "y"
symbol_of Week = codes "w"
symbol_of Day = codes "d"
symbol_of Hour = codes "h"
symbol_of Minute = codes "m"
symbol_of Second = codes "s"
symbol_of Millisecond = codes "ms"

-- its length in milliseconds
abbrev pub milliseconds_of : Unit → ℕ
milliseconds_of Year = 31_536_000_000
milliseconds_of Week = 604_800_000
milliseconds_of Day = 86_400_000
milliseconds_of Hour = 3_600_000
milliseconds_of Minute = 60_000
milliseconds_of Second = 1_000
milliseconds_of Millisecond = 1

-- its rank among the units, the longest first
abbrev pub rank_of : Unit → ℕ
rank_of Year = 0
rank_of Week = 1
rank_of Day = 2
rank_of Hour = 3
rank_of Minute = 4
rank_of Second = 5
rank_of Millisecond = 6

-- one decimal digit or more, and nothing else
abbrev pub IsNumber : List ℕ → Type 0
IsNumber digits = (0 < length digits) × (list_all is_ascii_digit digits ≡ true)

-- a number, as its digits, and its unit
pub record DurationPart : Type 0 where
  pub digits : List ℕ
  pub unit : Unit

-- a part as it is written
abbrev pub written : DurationPart → List ℕ
written part = part.digits ++ symbol_of part.unit

-- a part in milliseconds
abbrev pub worth : DurationPart → ℕ
worth part = digits_value 10 part.digits * milliseconds_of part.unit

-- each part has a number, and their units come in order, from a rank on, each once at most
abbrev pub AreParts : ℕ → List DurationPart → Type 0
AreParts from [] = ⊤
AreParts from (part ∷ parts) =
    IsNumber part.digits × (from ≤ rank_of part.unit) × AreParts (rank_of part.unit + 1) parts

-- the parts of a text, whose units have that rank or a later one
pub record ArePartsOf (from : ℕ) (text : List ℕ) (parts : List DurationPart) : Type 0 where
  pub in_order : AreParts from parts
  pub whole : text ≡ flat_map written parts

-- a text of one part or more, and their sum
abbrev pub IsSumOfParts : List ℕ → ℕ → Type 0
IsSumOfParts text total = (0 < length text)
    × ((parts : List DurationPart) × ArePartsOf 0 text parts × (total ≡ sum_by worth parts))

-- a duration: its parts, or the text `0`, up to the limit
abbrev pub IsDuration : List ℕ → ℕ → Type 0
IsDuration text total = (total ≤ MAX_MILLISECONDS)
    × (((text ≡ codes "0") × (total ≡ 0)) ⊎ IsSumOfParts text total)
