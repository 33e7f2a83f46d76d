use Rattle.std.proofs.Common.{arith, ap, ◌∙◌}
use Rattle.am_cast.proofs.Seats.{hands, hears}
use Rattle.am_cast.proofs.board.hand.hand_own.Goals as goal

pub split_seat-own-requires : goal.split_seat-own-requires
split_seat-own-requires g c = let t = c.requires.table in (t.0, omega arith, hands g.R.Keyed.key _ _)

pub join_seat-requires : goal.join_seat-requires
join_seat-requires g c = let t = c.requires.table in let s = c.split_seat-own.ensures in (t.1, s.3 ∙ t.0, ap (λ m. m.1) s.4, omega arith, hears g.R.Keyed.key _ _ _ _)
