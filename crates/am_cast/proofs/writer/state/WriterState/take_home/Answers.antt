use Rattle.std.proofs.Common.{arith, sym, ap, ◌∙◌, subst, Option, length-set, get_or, get_or-set_other, slice_set}
use Rattle.am_segment.specs.Segments.{KeyView}
use Rattle.am_cast.specs.declared.batch_view.BatchView.{BatchView}
use Rattle.am_cast.specs.declared.views.WriterView.{WriterView}
use Rattle.am_cast.specs.inside.WriterStates.{WriterStateView}
use Rattle.am_cast.specs.Changes.{retired}
use Rattle.am_cast.specs.Seats.{account_of, writer_of, some_or}
use Rattle.am_cast.specs.Writers.{Calm}
use Rattle.am_cast.proofs.Waiting.{fits_one, out_retired}
use Rattle.am_cast.specs.Rule.{first_writer}
use Rattle.am_cast.specs.declared.writer.lane_account.Stand.TheVariants.{Idle}
use Rattle.am_cast.specs.inside.LaneAccounts.{no_lane}
use Rattle.am_cast.proofs.Writers.{state_parts, home_kept}
use Rattle.am_cast.proofs.writer.state.WriterState.take_home.Goals as goal

pub invariant_of-self : goal.invariant_of-self
invariant_of-self g c = let i = c.self.invariant.0 in let e = c.retire_lane.ensures in let d = e.writer in let small = c.requires.calm.0 in let each = i.each c.args.lane small in let all = i.all in
    let calm = (subst (λ (q : WriterView (BatchView g.row.T.Denot g.row.P.Denot) (KeyView g.row.T.Denot) g.row.A.Denot). Calm q) (sym (ap (λ (v : WriterStateView g.row.T.Denot g.row.P.Denot g.row.A.Denot). v.known) c.self.view_is)) c.requires.calm.1).1 c.args.lane small in (
      state_parts g.N.Feed.table c.self.inside.seat.table_id c.retire_lane.new.seat.table_id c.self.inside.seat.me c.retire_lane.new.seat.me c.self.inside.next.places c.self.inside.next.number c.self.inside.closed c.self.inside.lanes
          (slice_set c.self.inside.lanes c.args.lane record { stand = Idle; word = (get_or c.self.inside.lanes c.args.lane no_lane).word }) c.args.lane (retired (account_of (writer_of c.self.inside.seat.me.0) c.args.lane)) i e.same.0 e.same.1 d.0 d.1 d.2 small (length-set c.self.inside.lanes c.args.lane record { stand = Idle; word = (get_or c.self.inside.lanes c.args.lane no_lane).word } ∙ i.wide) (home_kept (account_of (writer_of c.self.inside.seat.me.0) c.args.lane) c.self.inside.lanes c.args.lane small i.wide each) (λ k ne. get_or-set_other c.self.inside.lanes c.args.lane k record { stand = Idle; word = (get_or c.self.inside.lanes c.args.lane no_lane).word } no_lane ne),
      fits_one (writer_of c.self.inside.seat.me.0) (writer_of c.retire_lane.new.seat.me.0) c.self.inside.rows c.args.lane (retired (account_of (writer_of c.self.inside.seat.me.0) c.args.lane)) (ap (λ (o : Option (WriterView (BatchView g.row.T.Denot g.row.P.Denot) (KeyView g.row.T.Denot) g.row.A.Denot)). some_or (first_writer 0) o) d.0) (omega arith) (λ i. out_retired (account_of (writer_of c.self.inside.seat.me.0) c.args.lane) i (λ a. calm.rest_is (λ z. let c₂ = (calm.away_is a).0 in omega arith))) c.self.invariant.1,
      c.self.invariant.2,
    )
