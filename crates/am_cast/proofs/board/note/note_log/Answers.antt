use Rattle.std.proofs.Common.{arith}
use Rattle.am_cast.proofs.steps.Note.{notes}
use Rattle.am_cast.proofs.board.note.note_log.Goals as goal

pub load-requires : goal.load-requires
load-requires g c = let t = c.requires.table in (t.0, omega arith, notes g.R.Keyed.key _ _ c.args.seat.now.me)
