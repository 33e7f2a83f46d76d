use Rattle.std.proofs.Common.{arith, refl, sym, ap, ◌∙◌, subst, length-set, get_or, get_or-set_other, slice_set}
use Rattle.am_segment.specs.Segments.{KeyView}
use Rattle.am_cast.specs.declared.batch_view.BatchView.{BatchView}
use Rattle.am_cast.specs.declared.views.View.{View}
use Rattle.am_cast.specs.declared.views.WriterView.{WriterView}
use Rattle.am_cast.specs.inside.WriterStates.{WriterStateView}
use Rattle.am_cast.specs.Changes.{retired, loaded}
use Rattle.am_cast.specs.Seats.{account_of, writer_of}
use Rattle.am_cast.specs.Writers.{Calm}
use Rattle.am_cast.proofs.Waiting.{fits_set, out_retired}
use Rattle.am_cast.specs.declared.writer.lane_account.Stand.TheVariants.{Idle}
use Rattle.am_cast.specs.inside.LaneAccounts.{no_lane}
use Rattle.am_cast.proofs.Writers.{state_parts, home_kept}
use Rattle.am_cast.proofs.writer.state.WriterState.find_left.Goals as goal

pub invariant_of-self : goal.invariant_of-self
invariant_of-self g c = let i = c.self.invariant.0 in let e = c.reclaim_lane-left.ensures in let is = e.gone c.if-left.true in let small = c.requires.0 in let each = i.each c.args.lane small in let all = i.all in let b = account_of (writer_of c.self.inside.seat.me.0) c.args.lane in
    let calm = (subst (λ (q : WriterView (BatchView g.row.T.Denot g.row.P.Denot) (KeyView g.row.T.Denot) g.row.A.Denot). Calm q) (sym (ap (λ (v : WriterStateView g.row.T.Denot g.row.P.Denot g.row.A.Denot). v.known) c.self.view_is)) c.requires.1).1 c.args.lane small in (
      state_parts g.N.Feed.table c.self.inside.seat.table_id c.reclaim_lane-left.new.seat.table_id c.self.inside.seat.me c.reclaim_lane-left.new.seat.me c.self.inside.next.places c.self.inside.next.number c.self.inside.closed c.self.inside.lanes
          (slice_set c.self.inside.lanes c.args.lane record { stand = Idle; word = (get_or c.self.inside.lanes c.args.lane no_lane).word }) c.args.lane (retired b) i e.same.0 e.same.1 (ap (λ (w : View (BatchView g.row.T.Denot g.row.P.Denot) (KeyView g.row.T.Denot) g.row.A.Denot). w.writer) is) (ap (λ (w : View (BatchView g.row.T.Denot g.row.P.Denot) (KeyView g.row.T.Denot) g.row.A.Denot). w.lane) is ∙ i.alone) (ap (λ (w : View (BatchView g.row.T.Denot g.row.P.Denot) (KeyView g.row.T.Denot) g.row.A.Denot). w.own) is ∙ i.no_own) small (length-set c.self.inside.lanes c.args.lane record { stand = Idle; word = (get_or c.self.inside.lanes c.args.lane no_lane).word } ∙ i.wide) (home_kept b c.self.inside.lanes c.args.lane small i.wide each) (λ k ne. get_or-set_other c.self.inside.lanes c.args.lane k record { stand = Idle; word = (get_or c.self.inside.lanes c.args.lane no_lane).word } no_lane ne),
      fits_set c.self.inside.seat.me.0 c.reclaim_lane-left.new.seat.me.0 c.self.inside.rows c.args.lane (retired b) is (omega arith) (λ i. out_retired b i (λ a. calm.rest_is (λ z. let c₂ = (calm.away_is a).0 in omega arith))) c.self.invariant.1,
      c.self.invariant.2,
    )

pub invariant_of-self-else-left : goal.invariant_of-self-else-left
invariant_of-self-else-left g c = let i = c.self.invariant.0 in let e = c.reclaim_lane-left.ensures in let is = e.here c.if-left.false in let small = c.requires.0 in let kept = i.each c.args.lane small in let all = i.all in (
  state_parts g.N.Feed.table c.self.inside.seat.table_id c.reclaim_lane-left.new.seat.table_id c.self.inside.seat.me c.reclaim_lane-left.new.seat.me c.self.inside.next.places c.self.inside.next.number c.self.inside.closed c.self.inside.lanes c.self.inside.lanes c.args.lane (loaded (account_of (writer_of c.self.inside.seat.me.0) c.args.lane)) i e.same.0 e.same.1 (ap (λ (w : View (BatchView g.row.T.Denot g.row.P.Denot) (KeyView g.row.T.Denot) g.row.A.Denot). w.writer) is) (ap (λ (w : View (BatchView g.row.T.Denot g.row.P.Denot) (KeyView g.row.T.Denot) g.row.A.Denot). w.lane) is ∙ i.alone) (ap (λ (w : View (BatchView g.row.T.Denot g.row.P.Denot) (KeyView g.row.T.Denot) g.row.A.Denot). w.own) is ∙ i.no_own) small i.wide
      record { stand_is = kept.stand_is; known_is = kept.known_is; live_is = kept.live_is; cut_is = kept.cut_is; rest_is = kept.rest_is; bound = kept.bound } (λ k ne. refl),
  fits_set c.self.inside.seat.me.0 c.reclaim_lane-left.new.seat.me.0 c.self.inside.rows c.args.lane (loaded (account_of (writer_of c.self.inside.seat.me.0) c.args.lane)) (c.reclaim_lane-left.ensures.here c.if-left.false) (omega arith) (λ i. refl) c.self.invariant.1,
  c.self.invariant.2,
)
