use Rattle.std.proofs.Common.{arith}
use Rattle.am_cast.proofs.Seats.{hears}
use Rattle.am_cast.proofs.board.take_in.take_in.Goals as goal

pub join_seat-requires : goal.join_seat-requires
join_seat-requires g c = let t = c.requires.table in (t.0, t.1, t.3, omega arith, hears g.R.Keyed.key _ _ _ _)
