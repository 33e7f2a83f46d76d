use Rattle.std.proofs.Common.{arith}
use Rattle.am_cast.proofs.steps.Weigh.{weighs}
use Rattle.am_cast.proofs.board.weigh.weigh_view.Goals as goal

pub load-requires : goal.load-requires
load-requires g c = let t = c.requires.table in (t.0, omega arith, weighs g.R.Keyed.key _ _ c.args.seat.now.me)
