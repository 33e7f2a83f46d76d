use Rattle.std.proofs.Common.{arith}
use Rattle.am_cast.proofs.Seats.{tells}
use Rattle.am_cast.proofs.board.tell.new_seat.Goals as goal

pub split_seat-requires : goal.split_seat-requires
split_seat-requires g c = let t = c.requires.table in (t.0, omega arith, tells g.R.Keyed.key _ _)
