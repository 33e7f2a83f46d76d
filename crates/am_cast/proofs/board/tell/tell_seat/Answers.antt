use Rattle.std.proofs.Common.{arith, ap, ◌∙◌}
use Rattle.am_cast.proofs.Seats.{tells, hears}
use Rattle.am_cast.proofs.board.tell.tell_seat.Goals as goal

pub split_seat-copy-requires : goal.split_seat-copy-requires
split_seat-copy-requires g c = let t = c.requires.table in (t.0, omega arith, tells g.R.Keyed.key _ _)

pub join_seat-requires : goal.join_seat-requires
join_seat-requires g c = let t = c.requires.table in let s = c.split_seat-copy.ensures in (t.1, s.3 ∙ t.0, ap (λ m. m.1) s.4, omega arith, hears g.R.Keyed.key _ _ _ _)
