use Rattle.std.proofs.Common.{arith}
use Rattle.am_cast.specs.Seats.{lane_of}
use Rattle.am_cast.proofs.steps.Look.{looks}
use Rattle.am_cast.proofs.board.look.look_at_log.Goals as goal

pub load-n-requires : goal.load-n-requires
load-n-requires g c = let t = c.requires.table in
    (t.0, omega arith, looks g.R.Keyed.key _ _ c.args.seat.now.me (lane_of c.args.seat.now.me.0) c.requires.lane.0 c.requires.lane.1)
