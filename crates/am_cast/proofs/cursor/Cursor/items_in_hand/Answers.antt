use Rattle.std.proofs.Common.{◌≡◌, refl, sym, ap, ◌∙◌, subst, true, Option}
use Rattle.am_segment.specs.Segments.{KeyView}
use Rattle.atomic_table.specs.declared.shared.Seat.{Seat}
use Rattle.am_cast.specs.declared.batch_view.BatchView.{BatchView}
use Rattle.am_cast.specs.declared.views.View.{View}
use Rattle.am_cast.specs.Rule.{slot}
use Rattle.am_cast.specs.Seats.{lane_of}
use Rattle.am_cast.specs.Cursors.{CursorView, items_at}
use Rattle.am_cast.proofs.Cursors.{has_key, full_at, items_held}
use Rattle.am_cast.proofs.cursor.Cursor.items_in_hand.Goals as goal

pub key_in-requires-clause-full : goal.key_in-requires-clause-full
key_in-requires-clause-full g c = let i = c.self.inside in let v = lane_of i.seat.me.0 in let k = c.self.invariant in
    let held = subst (λ (v : CursorView g.row.T.Denot g.row.P.Denot g.row.A.Denot). v.lane.held ≡ true) (sym c.self.view_is) c.requires in
    full_at i.seat.me v c.slot-at.result (has_key i.seat.me v i.shown i.hand held k.hand_is)
    (c.slot-at.ensures ∙ (λ j. slot (sym k.places_is j) (sym k.number_is j) (sym k.passed_is j)))

pub returns : goal.returns
returns g c = let i = c.self.inside in let v = lane_of i.seat.me.0 in
    let held = subst (λ (v : CursorView g.row.T.Denot g.row.P.Denot g.row.A.Denot). v.lane.held ≡ true) (sym c.self.view_is) c.requires in
    let here = items_held i.seat.me v c.slot-at.result c.key_in.result.now (has_key i.seat.me v i.shown i.hand held c.self.invariant.hand_is) c.key_in.ensures.key in (
      (
        refl,
        (λ _. tt),
        ap (λ (s : Seat (Option (KeyView g.row.T.Denot)) (View (BatchView g.row.T.Denot g.row.P.Denot) (KeyView g.row.T.Denot) g.row.A.Denot)). let w : CursorView g.row.T.Denot g.row.P.Denot g.row.A.Denot = record { lane = lane_of s.me.0; shown = i.shown } in w) c.key_in.follows.holds-at-none ∙ c.self.view_is,
      ),
      record {
        lender = tt;
        items = c.as_slice.ensures ∙ sym here ∙ ap (λ (v : CursorView g.row.T.Denot g.row.P.Denot g.row.A.Denot). items_at v.lane.front v.lane.passed) c.self.view_is;
      },
    )
