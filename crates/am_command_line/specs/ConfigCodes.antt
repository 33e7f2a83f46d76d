-- Refusals of a configuration as the program prints them: this project's own codes.
use Rattle.std.specs.Prelude.{ℕ, List, ◌++◌, codes}
use Rattle.am_config.specs.Paths.{path_text}
use Rattle.am_config.specs.declared.fault.ConfigFault.{ConfigFault}
use Rattle.am_config.specs.declared.fault.ConfigFault.TheVariants as fault

-- why a configuration was refused, with the path of what is wrong
abbrev pub config_code : ConfigFault → List ℕ
config_code fault.NoMemory = codes "E0 NoMemory"
config_code (fault.NoOperator path) = codes "E1 NoOperator " ++ path_text path
config_code (fault.BadName path) = codes "E2 BadName " ++ path_text path
config_code (fault.BadQuote path) = codes "E3 BadQuote " ++ path_text path
config_code (fault.BadPattern path) = codes "E4 BadPattern " ++ path_text path
config_code fault.NotJson = codes "E5 NotJson"
config_code (fault.Missing path) = codes "E17 Missing " ++ path_text path
config_code (fault.Deprecated path) = codes "E18 Deprecated " ++ path_text path
config_code fault.RootMatchers = codes "E19 RootMatchers"
config_code fault.TooDeep = codes "E20 TooDeep"
config_code fault.BadDuration = codes "E21 BadDuration"
config_code (fault.WrongKind path) = codes "E22 WrongKind " ++ path_text path
