-- How a configuration or a script that is refused is printed.
use Rattle.std.specs.Prelude.{ℕ, List, [], ◌∷◌, ◌++◌, codes}
use Rattle.json.specs.Json.{object}
use Rattle.am_command_line.specs.ConfigCodes.{config_code}
use Rattle.am_config.specs.declared.fault.ConfigFault.{ConfigFault}
use Rattle.am_script.specs.JsonLines.{about_line, fault_members, object_line, refusing}
use Rattle.am_script.specs.ScriptTexts.{refusal_text}
use Rattle.am_script.specs.declared.script.Fault.TheVariants.{TooLarge}
use Rattle.am_script.specs.declared.script.Refusal.{Refusal}
use Rattle.am_script.specs.declared.form.Form.{Form}
use Rattle.am_script.specs.declared.form.Form.TheVariants.{Text, Json}

-- the first line is above the limit
abbrev pub first_line_too_large : Refusal
first_line_too_large = record { number = 1; fault = TooLarge }

-- a refused configuration
abbrev pub refused_config : Form → ConfigFault → List ℕ
refused_config Text fault = codes "config " ++ (config_code fault ++ codes "\n")
refused_config Json fault = object_line (object (refusing (codes "config") (config_code fault)))

-- a refused script
abbrev pub refused_script : Form → Refusal → List ℕ
refused_script Text refusal = refusal_text refusal ++ codes "\n"
refused_script Json refusal = object_line (about_line refusal.number (fault_members refusal.fault))
