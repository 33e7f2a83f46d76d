use Rattle.std.proofs.Common.{◌≡◌, ◌<◌, length, sym, ap, ◌∙◌, subst, false, List, Option, Some}
use Rattle.am_segment.specs.Segments.{KeyView}
use Rattle.atomic_table.specs.declared.shared.Seat.{Seat}
use Rattle.am_cast.specs.declared.batch_view.BatchView.{BatchView}
use Rattle.am_cast.specs.declared.views.View.{View}
use Rattle.am_cast.specs.Rule.{slot}
use Rattle.am_cast.specs.Seats.{lane_of}
use Rattle.am_cast.specs.Cursors.{CursorView}
use Rattle.am_cast.specs.inside.Cursors.{CursorOk}
use Rattle.am_cast.proofs.Cursors.{cursor_took, full_at, items_held}
use Rattle.am_cast.proofs.cursor.Cursor.take.Goals as goal

pub key_in-requires-clause-full : goal.key_in-requires-clause-full
key_in-requires-clause-full g c = let k = c.self.invariant in
    full_at c.take_key.new.seat.me (lane_of c.self.inside.seat.me.0) c.slot-at.result c.if-take_key.ensures.took.1
    (c.slot-at.ensures ∙ (λ j. slot (sym k.places_is j) (sym k.number_is j) (sym k.passed_is j)))

pub invariant_of-self : goal.invariant_of-self
invariant_of-self g c =
    let i = c.self.inside in let v = lane_of i.seat.me.0 in let m = c.take_key.new.seat.me in let took = c.if-take_key.ensures.took in
    let r = subst (λ (v : CursorView g.row.T.Denot g.row.P.Denot g.row.A.Denot). (v.lane.held ≡ false) × (v.lane.cut ≡ false) × (v.lane.passed < length v.lane.front)) (sym c.self.view_is) c.requires in
    let here = items_held m v c.slot-at.result c.key_in.result.now took.1 c.key_in.ensures.key in
    let count = c.len.ensures ∙ ap (λ (l : List g.row.T.Denot). length l) (sym here) in
    subst (λ (s : Seat (Option (KeyView g.row.T.Denot)) (View (BatchView g.row.T.Denot g.row.P.Denot) (KeyView g.row.T.Denot) g.row.A.Denot)). CursorOk g.N.Feed.table s.table_id s.me i.number i.next.places i.next.number i.seen 1 i.closed i.cut (Some c.len.result))
    (sym c.key_in.follows.holds-at-none)
    (cursor_took g.N.Feed.table i.seat.table_id c.take_key.new.seat.table_id i.seat.me m i.number i.next.places i.next.number i.seen i.shown i.closed i.cut i.hand c.len.result c.self.invariant c.take_key.ensures.same r.1 r.2 took count)
