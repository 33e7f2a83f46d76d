use Rattle.std.proofs.Common.{arith, ◌≡◌, ◌<◌, ℕ, refl, sym, ap, subst, ◌∙◌, true}
use Rattle.am_segment.specs.Segments.{KeyView}
use Rattle.am_cast.specs.declared.batch_view.BatchView.{BatchView}
use Rattle.am_cast.specs.declared.views.View.{View}
use Rattle.am_cast.specs.declared.views.WriterView.{WriterView}
use Rattle.am_cast.specs.inside.WriterStates.{WriterStateView}
use Rattle.am_cast.specs.Seats.{account_of, writer_of, IsKeyAt}
use Rattle.am_cast.specs.Changes.{clearing}
use Rattle.am_cast.proofs.Waiting.{may_bring, brought}
use Rattle.am_cast.proofs.Writers.{state_parts}
use Rattle.am_cast.specs.Keys.{key_of}
use Rattle.am_cast.proofs.writer.state.WriterState.bring_one.Goals as goal

pub bring-requires-clause-row : goal.bring-requires-clause-row
bring-requires-clause-row g c = let all = c.self.invariant.0.all in let r = subst (λ (q : WriterView (BatchView g.row.T.Denot g.row.P.Denot) (KeyView g.row.T.Denot) g.row.A.Denot). (c.args.place ≡ (account_of q c.args.lane).cleared) × (c.args.place < (account_of q c.args.lane).stop) × ((account_of q c.args.lane).away ≡ true → (account_of q c.args.lane).known < (account_of q c.args.lane).cleared)) (sym (ap (λ (v : WriterStateView g.row.T.Denot g.row.P.Denot g.row.A.Denot). v.known) c.self.view_is)) (c.requires.1, c.requires.5, c.requires.6) in let small = c.requires.0 in let e = ap (λ (w : View (BatchView g.row.T.Denot g.row.P.Denot) (KeyView g.row.T.Denot) g.row.A.Denot). writer_of w) c.clear_slot-key.ensures.writer in let key = subst (λ (i : ℕ). IsKeyAt key_of (writer_of c.self.inside.seat.me.0).tail.log i c.args.lane c.clear_slot-key.result) (sym r.0) c.clear_slot-key.ensures.key in
    may_bring (writer_of c.self.inside.seat.me.0) (writer_of c.clear_slot-key.new.seat.me.0) c.self.inside.rows c.args.lane c.args.place c.clear_slot-key.result (omega arith) small r.0 r.1 r.2 e key c.self.invariant.1

pub invariant_of-self : goal.invariant_of-self
invariant_of-self g c = (
  let i = c.self.invariant.0 in let seat = c.self.inside.seat in let m = i.each c.args.lane c.requires.0 in let writes = c.clear_slot-key.ensures.writer in
      state_parts g.N.Feed.table seat.table_id c.clear_slot-key.new.seat.table_id seat.me c.clear_slot-key.new.seat.me c.self.inside.next.places c.self.inside.next.number c.self.inside.closed c.self.inside.lanes c.self.inside.lanes
      c.args.lane (clearing (account_of (writer_of seat.me.0) c.args.lane)) i c.clear_slot-key.ensures.same.0 c.clear_slot-key.ensures.same.1
      (ap (λ (w : View (BatchView g.row.T.Denot g.row.P.Denot) (KeyView g.row.T.Denot) g.row.A.Denot). w.writer) writes)
      (ap (λ (w : View (BatchView g.row.T.Denot g.row.P.Denot) (KeyView g.row.T.Denot) g.row.A.Denot). w.lane) writes ∙ i.alone)
      (ap (λ (w : View (BatchView g.row.T.Denot g.row.P.Denot) (KeyView g.row.T.Denot) g.row.A.Denot). w.own) writes ∙ i.no_own)
      c.requires.0 i.wide record { stand_is = m.stand_is; known_is = m.known_is; live_is = m.live_is; cut_is = m.cut_is; rest_is = m.rest_is; bound = m.bound }
      (λ _ _. refl),
  let all = c.self.invariant.0.all in let r = subst (λ (q : WriterView (BatchView g.row.T.Denot g.row.P.Denot) (KeyView g.row.T.Denot) g.row.A.Denot). (c.args.place ≡ (account_of q c.args.lane).cleared) × (c.args.place < (account_of q c.args.lane).stop) × ((account_of q c.args.lane).away ≡ true → (account_of q c.args.lane).known < (account_of q c.args.lane).cleared)) (sym (ap (λ (v : WriterStateView g.row.T.Denot g.row.P.Denot g.row.A.Denot). v.known) c.self.view_is)) (c.requires.1, c.requires.5, c.requires.6) in let small = c.requires.0 in let e = ap (λ (w : View (BatchView g.row.T.Denot g.row.P.Denot) (KeyView g.row.T.Denot) g.row.A.Denot). writer_of w) c.clear_slot-key.ensures.writer in let key = subst (λ (i : ℕ). IsKeyAt key_of (writer_of c.self.inside.seat.me.0).tail.log i c.args.lane c.clear_slot-key.result) (sym r.0) c.clear_slot-key.ensures.key in
      brought (writer_of c.self.inside.seat.me.0) (writer_of c.clear_slot-key.new.seat.me.0) c.self.inside.rows c.bring.new.self c.args.lane c.args.place c.clear_slot-key.result (omega arith) small r.0 r.1 r.2 e key c.self.invariant.1 c.bring.ensures.here c.bring.ensures.others,
  c.bring.ensures.count ∙ c.self.invariant.2,
)
