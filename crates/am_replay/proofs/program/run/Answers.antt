use Rattle.am_replay.specs.Programs.{no_memory, obeyed, told}
use Rattle.am_replay.proofs.Replays.{keeps_same}
use Rattle.am_replay.proofs.program.run.Goals as goal

pub returns-in-Ok : goal.returns-in-Ok
returns-in-Ok g c = obeyed c.in-Ok.arguments c.in-Ok.ensures.read c.obey.ensures

pub returns-in-Err-Refused : goal.returns-in-Err-Refused
returns-in-Err-Refused g c = told c.deref.result.now (rw c.in-Err-Refused.field-0-is at c.in-Err-Refused.ensures.refused) c.tell.ensures

pub returns-in-Err : goal.returns-in-Err
returns-in-Err g c = no_memory (keeps_same (g.O.Write.contents c.args.out.now))
