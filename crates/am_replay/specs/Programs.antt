-- What the program does under its arguments.
use Rattle.std.specs.Prelude.{ℕ, List, Option}
use Rattle.std.specs.Io.KnownBytes.{Appends, Keeps}
use Rattle.am_script.specs.Outputs.{AppendsBeginning}
use Rattle.am_command_line.specs.Arguments.{AreArgumentsOf, AreRefused}
use Rattle.am_replay.specs.Live.{IsLive}
use Rattle.am_replay.specs.Replays.{IsReplay}
use Rattle.am_command_line.specs.declared.arguments.Arguments.{Arguments}
use Rattle.am_command_line.specs.declared.arguments.Mode.{Mode}
use Rattle.am_command_line.specs.declared.arguments.Mode.TheVariants.{Ordered, Free, Live, Follow}
use Rattle.am_command_line.specs.declared.status.Status.{Status}
use Rattle.am_command_line.specs.declared.status.Status.TheVariants.{Done, BadArguments, Refused}
use Rattle.am_command_line.specs.declared.status.Status.TheVariants.{CallOutOfMemory}
use Rattle.am_command_line.specs.declared.status.Status.TheVariants.{OutOfMemory, NoThread, ReadFailed}
use Rattle.am_command_line.specs.declared.status.Status.TheVariants.{WriteFailed}

-- what clap has to say of arguments is printed, or a beginning of it where a write failed
abbrev pub IsTelling : List ℕ → Option (List ℕ) → Status → Option (List ℕ) → Type 0
IsTelling text old BadArguments new = Appends old new text
IsTelling text old WriteFailed new = AppendsBeginning old new text
IsTelling text old Done new = ⊥
IsTelling text old Refused new = ⊥
IsTelling text old CallOutOfMemory new = ⊥
IsTelling text old OutOfMemory new = ⊥
IsTelling text old NoThread new = ⊥
IsTelling text old ReadFailed new = ⊥

-- how a run in the arguments' mode ends, and what it prints
abbrev pub RunsIn : Mode → Arguments → Option (List ℕ) → Option (List ℕ) → Status → Option (List ℕ) → Type 0
RunsIn Ordered arguments input old status new = IsReplay arguments input old status new
RunsIn Free arguments input old status new = IsReplay arguments input old status new
RunsIn Live arguments input old status new = IsLive arguments input old status new
RunsIn Follow arguments input old status new = IsLive arguments input old status new

-- a run under these arguments: one in the mode that they name
abbrev pub IsRunAs : Arguments → Option (List ℕ) → Option (List ℕ) → Status → Option (List ℕ) → Type 0
IsRunAs arguments input old status new = RunsIn arguments.mode arguments input old status new

-- What the program does under its arguments: a run, or a report on arguments that are refused or that ask for
-- help. It may be out of memory before.
pub data IsProgram (given : List (List ℕ)) (input old : Option (List ℕ))
    : Status → Option (List ℕ) → Type 0 where
  obeyed : {status : Status} {new : Option (List ℕ)} (arguments : Arguments) → AreArgumentsOf given arguments
      → IsRunAs arguments input old status new → IsProgram given input old status new
  told : {status : Status} {new : Option (List ℕ)} (text : List ℕ) → AreRefused given
      → IsTelling text old status new → IsProgram given input old status new
  no_memory : {new : Option (List ℕ)} → Keeps old new → IsProgram given input old OutOfMemory new
