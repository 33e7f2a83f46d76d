use Rattle.std.proofs.Common.{arith, refl}
use Rattle.am_cast.specs.Seats.{lane_of}
use Rattle.am_cast.proofs.steps.Leave.{leaves, none_left}
use Rattle.am_cast.proofs.board.leave.leave_lane.Goals as goal

pub store-requires : goal.store-requires
store-requires g c = let r = c.requires.lane in let t = c.requires.table in
    (t.0, omega arith, rw r.1 (leaves g.R.Keyed.key _ _ c.args.seat.now.me (lane_of c.args.seat.now.me.0) _ r.0 r.2 c.requires.hand refl))

pub returns-clause-same : goal.returns-clause-same
returns-clause-same g c = grind (arith, none_left)

pub returns-clause-lane : goal.returns-clause-lane
returns-clause-lane g c = (c.store.ensures.2 (lane_of c.args.seat.now.me.0) c.requires.lane.0).0
