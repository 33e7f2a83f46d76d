-- A configuration (Alertmanager's configuration documentation), over the value that its JSON is.
use Rattle.std.specs.Prelude.{◌≡◌, ◌<◌, ℕ, ◌*◌, List, [], length, Option, Some, None, Result, Ok, Err, IsUtf8}
use Rattle.std.specs.Duration.{as_nanos}
use Rattle.std.specs.declared.time.Duration.{Duration}
use Rattle.serde_json.specs.Data.{Data}
use Rattle.serde_json.specs.Find.{as_object}
use Rattle.serde_json.specs.Read.{read}
use Rattle.am_config.specs.Members.{of_kind}
use Rattle.am_config.specs.Readings.{Reading, Is, ◌>>=◌}
use Rattle.am_config.specs.Durations.{IsDuration}
use Rattle.am_config.specs.Timeouts.{timeout_text_of}
use Rattle.am_config.specs.RouteReadings.{root_reading}
use Rattle.am_config.specs.RuleReadings.{rules_of}
use Rattle.am_config.specs.declared.config.Config.{Config}
use Rattle.am_config.specs.declared.config.TheConstants.{DEFAULT_MILLISECONDS}
use Rattle.am_config.specs.declared.fault.ConfigFault.{ConfigFault}
use Rattle.am_config.specs.declared.fault.ConfigFault.TheVariants.{NoMemory, NotJson, BadDuration}

-- whether a duration is that many milliseconds
abbrev pub LastsMilliseconds : ℕ → Duration → Type 0
LastsMilliseconds milliseconds duration = as_nanos duration ≡ milliseconds * 1_000_000

-- the resolve timeout of a text, five minutes if there is none
abbrev pub timeout_from : Option (List ℕ) → Reading Duration
timeout_from None (Ok timeout) = LastsMilliseconds DEFAULT_MILLISECONDS timeout
timeout_from None (Err fault) = ⊥
timeout_from (Some text) (Ok timeout) =
    (milliseconds : ℕ) × IsDuration text milliseconds × LastsMilliseconds milliseconds timeout
timeout_from (Some text) (Err fault) =
    (fault ≡ BadDuration) × ((milliseconds : ℕ) → IsDuration text milliseconds → ⊥)

-- the resolve timeout of a configuration (its `global.resolve_timeout`)
unfoldable pub timeout_of : Data → Reading Duration
timeout_of d = do
  text ← Is (timeout_text_of d)
  timeout_from text

-- the configuration that a value is: an object, its timeout, its routes, its rules, in this order
unfoldable pub config_of : Data → Reading Config
config_of d = do
  members ← Is (of_kind as_object [] d)
  timeout ← timeout_of d
  root ← root_reading d
  rules ← rules_of d
  Is (Ok (record { resolve_timeout = timeout; tree = record { root = root }; rules = rules }))

-- the bytes are the JSON of a value
abbrev pub IsJsonOf : List ℕ → Data → Type 0
IsJsonOf bytes d = IsUtf8 bytes × (read bytes ≡ Some d)

-- what `Config::read` returns; memory can run out only if there are bytes
abbrev pub IsConfigOf : List ℕ → Result Config ConfigFault → Type 0
IsConfigOf bytes (Ok config) = (d : Data) × IsJsonOf bytes d × config_of d (Ok config)
IsConfigOf bytes (Err NoMemory) = 0 < length bytes
IsConfigOf bytes (Err NotJson) = IsUtf8 bytes → read bytes ≡ None
IsConfigOf bytes (Err fault) = (d : Data) × IsJsonOf bytes d × config_of d (Err fault)
