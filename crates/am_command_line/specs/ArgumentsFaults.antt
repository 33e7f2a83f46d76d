-- What is reported of arguments that clap refused.
use Rattle.std.specs.Prelude.{◌≢◌, ⊤}
use Rattle.clap.specs.Values.{kind_of}
use Rattle.clap.specs.declared.error.Error.{Error}
use Rattle.clap.specs.declared.error.kind.ErrorKind.TheVariants.{OutOfMemory}
use Rattle.am_command_line.specs.declared.arguments.ArgumentsFault.{ArgumentsFault}
use Rattle.am_command_line.specs.declared.arguments.ArgumentsFault.TheVariants.{Refused, NoMemory}

-- an error for lack of memory isn't reported as a refusal of the arguments
abbrev pub IsTold : Error → ArgumentsFault → Type 0
IsTold error (Refused text) = kind_of error ≢ OutOfMemory
IsTold error NoMemory = ⊤
