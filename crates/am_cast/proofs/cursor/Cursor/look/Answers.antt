use Rattle.std.proofs.Common.{ap, ◌∙◌}
use Rattle.am_cast.specs.declared.batch_view.BatchView.{BatchView}
use Rattle.am_cast.specs.declared.views.LaneView.{LaneView}
use Rattle.am_cast.specs.Changes.{with_lane}
use Rattle.am_cast.specs.Seats.{lane_of}
use Rattle.am_cast.specs.Cursors.{CursorView, shown_items}
use Rattle.am_cast.proofs.Cursors.{cursor_saw, taken_saw}
use Rattle.am_cast.proofs.cursor.Cursor.look.Goals as goal

pub invariant_of-self : goal.invariant_of-self
invariant_of-self g c =
    let i = c.self.inside in let n = c.look_at_log.new.seat in let e = c.look_at_log.ensures in
    cursor_saw g.N.Feed.table i.seat.table_id n.table_id i.seat.me n.me i.number i.next.places i.next.number i.seen i.shown i.closed i.cut i.hand (lane_of n.me.0).front c.look_at_log.result.0 c.look_at_log.result.1
    c.self.invariant e.same.0 e.same.1 (e.lane.0 ∙ ap (λ (w : LaneView (BatchView g.row.T.Denot g.row.P.Denot) g.row.A.Denot). with_lane w i.seat.me.0) e.lane.1) e.seen.0 e.seen.2 e.seen.3

pub returns-clause-taken : goal.returns-clause-taken
returns-clause-taken g c =
    let i = c.self.inside in let n = c.look_at_log.new.seat in let e = c.look_at_log.ensures in
    ap (λ (w : LaneView (BatchView g.row.T.Denot g.row.P.Denot) g.row.A.Denot). shown_items (record { lane = w; shown = i.shown })) e.lane.1
    ∙ taken_saw g.N.Feed.table i.seat.table_id i.seat.me i.number i.next.places i.next.number i.seen i.shown i.closed i.cut i.hand (lane_of n.me.0).front c.look_at_log.result.1 c.self.invariant e.seen.0
    ∙ ap (λ (v : CursorView g.row.T.Denot g.row.P.Denot g.row.A.Denot). shown_items v) c.self.view_is
