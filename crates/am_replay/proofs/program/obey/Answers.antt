use Rattle.std.proofs.Common.{List, ℕ, Option}
use Rattle.am_replay.specs.Live.{IsLive, no_memory}
use Rattle.am_replay.specs.Programs.{RunsIn}
use Rattle.am_command_line.specs.declared.arguments.Arguments.{Arguments}
use Rattle.am_command_line.specs.declared.arguments.Mode.{Mode}
use Rattle.am_command_line.specs.declared.arguments.Mode.TheVariants.{Ordered, Free, Live, Follow}
use Rattle.am_command_line.specs.declared.status.Status.TheVariants.{OutOfMemory}
use Rattle.am_replay.proofs.Replays.{keeps_same}
use Rattle.am_replay.proofs.program.obey.Goals as goal

-- a run that hasn't begun for want of memory, in each mode
not_begun_in : (mode : Mode) (arguments : Arguments) (input old : Option (List ℕ)) → RunsIn mode arguments input old OutOfMemory old
not_begun_in Ordered arguments input old = keeps_same old
not_begun_in Free arguments input old = keeps_same old
not_begun_in Live arguments input old = IsLive.not_begun no_memory (keeps_same old)
not_begun_in Follow arguments input old = IsLive.not_begun no_memory (keeps_same old)

pub returns-in-Err : goal.returns-in-Err
returns-in-Err g c = not_begun_in c.args.arguments.mode c.args.arguments (g.I.Read.remaining c.args.input.now) (g.O.Write.contents c.args.out.now)
