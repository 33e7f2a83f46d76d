use Rattle.std.proofs.Common.{arith, refl, ap, ◌∙◌}
use Rattle.am_segment.specs.Segments.{KeyView}
use Rattle.am_cast.specs.declared.batch_view.BatchView.{BatchView}
use Rattle.am_cast.specs.declared.views.View.{View}
use Rattle.am_cast.specs.Changes.{laying}
use Rattle.am_cast.specs.Seats.{account_of, writer_of}
use Rattle.am_cast.proofs.Waiting.{fits_set}
use Rattle.am_cast.proofs.Writers.{state_parts}
use Rattle.am_cast.proofs.writer.state.WriterState.fill_one.Goals as goal

pub invariant_of-self : goal.invariant_of-self
invariant_of-self g c = (
  let i = c.self.invariant.0 in let seat = c.self.inside.seat in let m = i.each c.args.lane c.requires.account.0 in let writes = c.fill_slot.ensures.writer in
      state_parts g.N.Feed.table seat.table_id c.fill_slot.new.seat.table_id seat.me c.fill_slot.new.seat.me c.self.inside.next.places c.self.inside.next.number c.self.inside.closed c.self.inside.lanes c.self.inside.lanes
      c.args.lane (laying c.args.key (account_of (writer_of seat.me.0) c.args.lane)) i c.fill_slot.ensures.same.0 c.fill_slot.ensures.same.1
      (ap (λ (w : View (BatchView g.row.T.Denot g.row.P.Denot) (KeyView g.row.T.Denot) g.row.A.Denot). w.writer) writes)
      (ap (λ (w : View (BatchView g.row.T.Denot g.row.P.Denot) (KeyView g.row.T.Denot) g.row.A.Denot). w.lane) writes ∙ i.alone)
      (ap (λ (w : View (BatchView g.row.T.Denot g.row.P.Denot) (KeyView g.row.T.Denot) g.row.A.Denot). w.own) writes ∙ i.no_own)
      c.requires.account.0 i.wide record { stand_is = m.stand_is; known_is = m.known_is; live_is = m.live_is; cut_is = m.cut_is; rest_is = m.rest_is; bound = m.bound }
      (λ _ _. refl),
  let all = c.self.invariant.0.all in let small = c.requires.account.0 in
      fits_set c.self.inside.seat.me.0 c.fill_slot.new.seat.me.0 c.self.inside.rows c.args.lane (laying c.args.key (account_of (writer_of c.self.inside.seat.me.0) c.args.lane)) (c.fill_slot.ensures.writer) (omega arith) (λ i. refl) c.self.invariant.1,
  c.self.invariant.2,
)
