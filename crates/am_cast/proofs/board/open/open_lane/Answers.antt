use Rattle.std.proofs.Common.{arith}
use Rattle.am_cast.specs.Seats.{lane_of}
use Rattle.am_cast.proofs.steps.Open.{opens}
use Rattle.am_cast.proofs.board.open.open_lane.Goals as goal

pub load-requires : goal.load-requires
load-requires g c = let r = c.requires.lane in let t = c.requires.table in
    (t.0, omega arith, rw r.1 (opens g.R.Keyed.key _ _ c.args.seat.now.me (lane_of c.args.seat.now.me.0) r.0 r.2 r.3))
