use Rattle.std.proofs.Common.{arith, ◌≡◌, ◌+◌, length, refl, ap, ◌∙◌, subst, true, false, sym}
use Rattle.am_segment.specs.Segments.{KeyView}
use Rattle.am_cast.specs.declared.batch_view.BatchView.{BatchView}
use Rattle.am_cast.specs.declared.views.LaneView.{LaneView}
use Rattle.am_cast.specs.declared.views.View.{View}
use Rattle.am_cast.specs.Seats.{lane_of}
use Rattle.am_cast.specs.Cursors.{CursorView, items_at, shown_items}
use Rattle.am_cast.proofs.Cursors.{has_key, is_held, taken_pass}
use Rattle.am_cast.proofs.cursor.Cursor.put_back.Goals as goal

pub pass_place-self-inside-requires-clause-held : goal.pass_place-self-inside-requires-clause-held
pass_place-self-inside-requires-clause-held g c =
    let i = c.self.inside in let v = lane_of i.seat.me.0 in let hand = c.self.invariant.hand_is in
    let held = is_held i.seat.me v i.shown i.hand (sym c.is_some.ensures ∙ c.if-is_some.true) hand in
    (c.self.invariant.begun, held, has_key i.seat.me v i.shown i.hand held hand)

pub returns-then-is_some-clause-taken : goal.returns-then-is_some-clause-taken
returns-then-is_some-clause-taken g c =
    let i = c.self.inside in let v = lane_of i.seat.me.0 in let hand = c.self.invariant.hand_is in
    let held = is_held i.seat.me v i.shown i.hand (sym c.is_some.ensures ∙ c.if-is_some.true) hand in
    let has = has_key i.seat.me v i.shown i.hand held hand in
    let low = c.self.invariant.low in let at = c.self.invariant.passed_is in
    let lane : lane_of c.pass_place-self-inside.new.seat.me.0 ≡ record v { passed = v.passed + 1; held = false; cut = c.pass_place-self-inside.result } =
    ap (λ (w : View (BatchView g.row.T.Denot g.row.P.Denot) (KeyView g.row.T.Denot) g.row.A.Denot). lane_of w) c.pass_place-self-inside.ensures.lane in
    let all = subst (λ (v : CursorView g.row.T.Denot g.row.P.Denot g.row.A.Denot). v.lane.held ≡ true → v.shown ≡ length (items_at v.lane.front v.lane.passed)) (sym c.self.view_is) c.requires held in
    taken_pass (record { lane = v; shown = i.shown }) (record { lane = lane_of c.pass_place-self-inside.new.seat.me.0; shown = 0 }) has.0 has.1 (omega arith) all
    (ap (λ (v : LaneView (BatchView g.row.T.Denot g.row.P.Denot) g.row.A.Denot). v.front) lane) (ap (λ (v : LaneView (BatchView g.row.T.Denot g.row.P.Denot) g.row.A.Denot). v.start) lane) (ap (λ (v : LaneView (BatchView g.row.T.Denot g.row.P.Denot) g.row.A.Denot). v.passed) lane) refl
    ∙ ap (λ (v : CursorView g.row.T.Denot g.row.P.Denot g.row.A.Denot). shown_items v) c.self.view_is
