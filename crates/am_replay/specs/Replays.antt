-- A whole replay: what it reads, what it prints and how it ends.
use Rattle.std.specs.Prelude.{ℕ, Bool, true, false, List, [], Option, Ok, Err, if◌then◌else◌}
use Rattle.std.specs.Io.KnownBytes.{Appends, Keeps}
use Rattle.am_script.specs.Outputs.{AppendsBeginning}
use Rattle.am_script.specs.Inputs.{IsReadOf}
use Rattle.am_replay.specs.Printing.{ran_out_of_memory, transcript_text}
use Rattle.am_runner.specs.Sessions.{setting_of}
use Rattle.am_replay.specs.Runs.{IsRun}
use Rattle.am_command_line.specs.declared.arguments.Arguments.{Arguments}
use Rattle.am_command_line.specs.declared.arguments.Mode.{Mode}
use Rattle.am_command_line.specs.declared.arguments.Mode.TheVariants.{Ordered}
use Rattle.am_replay.specs.declared.transcript.Transcript.{Transcript}
use Rattle.am_provider.specs.declared.settled.Settled.{Settled}
use Rattle.am_script.specs.Script.{Checks, lines_of}
use Rattle.am_script.specs.declared.command.Line.{Line}
use Rattle.am_script.specs.declared.script.Refusal.{Refusal}
use Rattle.am_config.specs.declared.config.Config.{Config}
use Rattle.am_config.specs.declared.fault.ConfigFault.{ConfigFault}
use Rattle.am_command_line.specs.FirstLines.{IsFirstLine}
use Rattle.am_command_line.specs.Refusals.{first_line_too_large, refused_config, refused_script}
use Rattle.am_command_line.specs.declared.first_line.FirstLine.TheVariants.{TooLong}
use Rattle.am_command_line.specs.declared.first_line.FirstLine.TheVariants as first_line
use Rattle.am_command_line.specs.declared.status.Status.{Status}
use Rattle.am_command_line.specs.declared.status.Status.TheVariants.{Done, BadArguments, Refused}
use Rattle.am_command_line.specs.declared.status.Status.TheVariants.{CallOutOfMemory}
use Rattle.am_command_line.specs.declared.status.Status.TheVariants.{OutOfMemory, NoThread, ReadFailed}
use Rattle.am_command_line.specs.declared.status.Status.TheVariants.{WriteFailed}

-- how a script that was run ends: it says whether some call was out of memory
abbrev pub status_of : Bool → Status
status_of out_of_memory = if out_of_memory then CallOutOfMemory else Done

-- whether a mode runs the lines in the script's order
abbrev pub runs_in_order : Mode → Bool
runs_in_order Ordered = true
runs_in_order mode = false

-- What a script's text gives: its first line is looked at before the others, and one that is no configuration
-- prints its fault; a refused script prints its first fault; in both nothing is run. Another one is run under
-- the arguments' places and policy, and prints what its calls answered.
pub data ComesTo (arguments : Arguments) (text : List ℕ) : Status → List ℕ → Type 0 where
  too_long : IsFirstLine text TooLong
      → ComesTo arguments text Refused (refused_script arguments.form first_line_too_large)
  no_config : (fault : ConfigFault) → IsFirstLine text (first_line.Refused fault)
      → ComesTo arguments text Refused (refused_config arguments.form fault)
  refused : (config : Config) (refusal : Refusal) → IsFirstLine text (first_line.Read config)
      → Checks 1 [] (lines_of text) (Err refusal)
      → ComesTo arguments text Refused (refused_script arguments.form refusal)
  ran : (config : Config) {lines : List Line} (transcript : Transcript) (settled : Settled)
      → IsFirstLine text (first_line.Read config)
      → Checks 1 [] (lines_of text) (Ok lines)
      → IsRun (runs_in_order arguments.mode) config
      (setting_of arguments.places arguments.full config.resolve_timeout) lines transcript settled
      → ComesTo arguments text (status_of (ran_out_of_memory transcript.answers.items))
      (transcript_text arguments.form lines transcript.answers.items transcript.counts)

-- all that the script gives was printed
pub record IsPrinted (arguments : Arguments) (input old new : Option (List ℕ)) (status : Status)
    : Type 0 where
  pub text : List ℕ
  pub output : List ℕ
  pub read : IsReadOf input text
  pub comes : ComesTo arguments text status output
  pub printed : Appends old new output

-- a write failed: a prefix of what the script gives was printed
pub record IsCutShort (arguments : Arguments) (input old new : Option (List ℕ)) : Type 0 where
  pub text : List ℕ
  pub status : Status
  pub output : List ℕ
  pub read : IsReadOf input text
  pub comes : ComesTo arguments text status output
  pub printed : AppendsBeginning old new output

-- how a replay ends under its arguments, over the input's bytes and what the output holds before and
-- after. If the script wasn't read, or the program ran out of memory or of threads, nothing was printed
abbrev pub IsReplay : Arguments → Option (List ℕ) → Option (List ℕ) → Status → Option (List ℕ) → Type 0
IsReplay arguments input old Done new = IsPrinted arguments input old new Done
IsReplay arguments input old Refused new = IsPrinted arguments input old new Refused
IsReplay arguments input old CallOutOfMemory new = IsPrinted arguments input old new CallOutOfMemory
IsReplay arguments input old OutOfMemory new = Keeps old new
IsReplay arguments input old NoThread new = Keeps old new
IsReplay arguments input old ReadFailed new = Keeps old new
IsReplay arguments input old WriteFailed new = IsCutShort arguments input old new
IsReplay arguments input old BadArguments new = ⊥
