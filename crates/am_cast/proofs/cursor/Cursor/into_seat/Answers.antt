use Rattle.std.proofs.Common.{subst}
use Rattle.am_cast.specs.Cursors.{CursorView}
use Rattle.am_cast.specs.Keys.{key_of}
use Rattle.am_cast.specs.Seats.{HoldsIf, lane_of}
use Rattle.am_cast.proofs.Cursors.{holds_if}
use Rattle.am_cast.proofs.cursor.Cursor.into_seat.Goals as goal

pub returns-clause-hand : goal.returns-clause-hand
returns-clause-hand g c = let i = c.self.inside in
    subst (λ (x : CursorView g.row.T.Denot g.row.P.Denot g.row.A.Denot). HoldsIf key_of x.lane.held i.seat.me x.lane) c.self.view_is (holds_if i.seat.me (lane_of i.seat.me.0) i.shown i.hand c.self.invariant.hand_is)
