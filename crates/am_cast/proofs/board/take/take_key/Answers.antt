use Rattle.std.proofs.Common.{arith, ◌*◌}
use Rattle.am_cast.specs.Seats.{lane_of}
use Rattle.am_cast.proofs.Slots.{at_below}
use Rattle.am_cast.proofs.steps.Take.{takes_key, took_as}
use Rattle.am_cast.proofs.board.take.take_key.Goals as goal

pub compare_exchange-requires : goal.compare_exchange-requires
compare_exchange-requires g c = let r = c.requires.lane in let t = c.requires.table in let h = c.requires.ready in
    (t.0, omega arith, rw r.1 (takes_key g.R.Keyed.key _ _ c.args.seat.now.me (lane_of c.args.seat.now.me.0) _ _ r.0 h.0 h.1 h.2 (omega arith) (omega arith)))

pub returns-clause-took : goal.returns-clause-took
returns-clause-took g c = let v = lane_of c.args.seat.now.me.0 in let h = c.requires.ready in let x = at_below v.front v.passed h.2 in
    took_as g.R.Keyed.key c.args.seat.now.me c.compare_exchange.new.seat.me v x.0 c.compare_exchange.result (4 * c.args.passed) x.1 h.3
    (c.compare_exchange.ensures.2 v x.0 c.requires.lane.0 x.1)
