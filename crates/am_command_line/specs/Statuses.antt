-- The exit status of each way in which a run ends, and what is written to the error stream.
use Rattle.std.specs.Prelude.{ℕ, List, [], codes}
use Rattle.am_command_line.specs.declared.status.Status.{Status}
use Rattle.am_command_line.specs.declared.status.Status.TheVariants.{Done, BadArguments, Refused}
use Rattle.am_command_line.specs.declared.status.Status.TheVariants.{CallOutOfMemory}
use Rattle.am_command_line.specs.declared.status.Status.TheVariants.{OutOfMemory, NoThread, ReadFailed}
use Rattle.am_command_line.specs.declared.status.Status.TheVariants.{WriteFailed}

-- 0 done, 1 bad arguments, 2 refused, 3 a failure
abbrev pub exit_status_of : Status → ℕ
exit_status_of Done = 0
exit_status_of BadArguments = 1
exit_status_of Refused = 2
exit_status_of CallOutOfMemory = 3
exit_status_of OutOfMemory = 3
exit_status_of NoThread = 3
exit_status_of ReadFailed = 3
exit_status_of WriteFailed = 3

-- a line that says why it failed, or that nothing was run; nothing where the output says all
abbrev pub reason_of : Status → List ℕ
reason_of Done = []
reason_of Refused = []
reason_of BadArguments = codes "replay: nothing was run: the arguments are wrong, or ask for help\n"
reason_of CallOutOfMemory = codes "replay: a call was out of memory, as its line says\n"
reason_of OutOfMemory = codes "replay: out of memory\n"
reason_of NoThread = codes "replay: a thread could not be started\n"
reason_of ReadFailed = codes "replay: the script could not be read\n"
reason_of WriteFailed = codes "replay: the output could not be written\n"
