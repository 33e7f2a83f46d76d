-- The first line of a script, which is its configuration.
use Rattle.std.specs.Prelude.{◌≢◌, ◌<◌, ◌≤◌, ℕ, List, length, Ok, Err}
use Rattle.am_script.specs.Script.{config_line}
use Rattle.am_script.specs.declared.limits.TheConstants.{LONGEST_LINE}
use Rattle.am_config.specs.Configs.{IsConfigOf}
use Rattle.am_config.specs.declared.fault.ConfigFault.TheVariants.{NoMemory}
use Rattle.am_command_line.specs.declared.first_line.FirstLine.{FirstLine}
use Rattle.am_command_line.specs.declared.first_line.FirstLine.TheVariants.{TooLong, Refused, Read}

-- what the first line of a text is found to be: above the limit, refused for a fault, or a configuration
abbrev pub IsFirstLine : List ℕ → FirstLine → Type 0
IsFirstLine text TooLong = LONGEST_LINE < length (config_line text)
IsFirstLine text (Refused fault) =
    (length (config_line text) ≤ LONGEST_LINE) × (fault ≢ NoMemory)
    × IsConfigOf (config_line text) (Err fault)
IsFirstLine text (Read config) =
    (length (config_line text) ≤ LONGEST_LINE) × IsConfigOf (config_line text) (Ok config)
