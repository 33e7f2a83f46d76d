use Rattle.std.proofs.Common.{arith, []}
use Rattle.am_cast.specs.Seats.{lane_of}
use Rattle.am_cast.proofs.steps.Pass.{passes}
use Rattle.am_cast.proofs.board.pass.pass_place.Goals as goal

pub fetch_add-requires : goal.fetch_add-requires
fetch_add-requires g c = let r = c.requires.lane in let t = c.requires.table in let h = c.requires.held in let has = h.2 in
    (t.0, omega arith, rw r.1 (passes g.R.Keyed.key _ _ c.args.seat.now.me (lane_of c.args.seat.now.me.0) has.0 [] r.0 h.0 h.1 has.1 has.2))
