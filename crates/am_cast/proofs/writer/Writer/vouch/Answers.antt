use Rattle.std.proofs.Common.{subst, drop}
use mathlib.Core.List.{IsPrefix}
use Rattle.am_segment.specs.Segments.{KeyView}
use Rattle.am_cast.specs.declared.batch_view.BatchView.{BatchView}
use Rattle.am_cast.specs.declared.views.WriterView.{WriterView}
use Rattle.am_cast.specs.Cursors.{CursorView, shown_items}
use Rattle.am_cast.specs.Keys.{all_items}
use Rattle.am_cast.specs.Seats.{account_of, lane_of}
use Rattle.am_cast.proofs.Cursors.{same_cursor, taken_sound}
use Rattle.am_cast.proofs.writer.Writer.vouch.Goals as goal

pub invariant_of-cursor : goal.invariant_of-cursor
invariant_of-cursor g c = let w = c.weigh.ensures.other in same_cursor _ _ _ c.cursor.inside.seat.me c.weigh.new.other.me _ _ _ _ _ _ _ _ c.cursor.invariant w.0 w.1 w.2 w.3 w.4

pub returns-clause-taken : goal.returns-clause-taken
returns-clause-taken g c =
    let known = c.self.inside.state.known in
    let cursor : CursorView g.row.T.Denot g.row.P.Denot g.row.A.Denot = record { lane = lane_of c.cursor.inside.seat.me.0; shown = c.cursor.inside.shown } in
    subst (λ (q : WriterView (BatchView g.row.T.Denot g.row.P.Denot) (KeyView g.row.T.Denot) g.row.A.Denot). IsPrefix (shown_items c.args.cursor.now) (all_items (drop c.args.cursor.now.lane.start q.tail.log))) c.self.view_is
    (subst (λ (k : CursorView g.row.T.Denot g.row.P.Denot g.row.A.Denot). IsPrefix (shown_items k) (all_items (drop k.lane.start known.tail.log))) c.cursor.view_is
    (taken_sound known.tail (account_of known cursor.lane.number) cursor cursor.lane.number c.weigh.ensures.sound.0))
