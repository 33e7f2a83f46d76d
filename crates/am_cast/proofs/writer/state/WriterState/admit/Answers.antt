use Rattle.std.proofs.Common.{arith, ◌≡◌, ◌≤◌, ◌*◌, length, refl, sym, ap, ◌∙◌, subst, Some, length-set, get_or-set_other, slice_set}
use Rattle.am_segment.specs.Segments.{KeyView}
use Rattle.am_cast.specs.declared.batch_view.BatchView.{BatchView}
use Rattle.am_cast.specs.declared.limits.TheConstants.{LONGEST_LOG}
use Rattle.am_cast.specs.declared.views.View.{View}
use Rattle.am_cast.specs.declared.views.WriterView.{WriterView}
use Rattle.am_cast.specs.declared.writer.lane_account.LaneAccount.{LaneAccount}
use Rattle.am_cast.specs.declared.writer.lane_account.Stand.TheVariants.{Live}
use Rattle.am_cast.specs.inside.LaneAccounts.{no_lane}
use Rattle.am_cast.specs.inside.WriterStates.{WriterStateView}
use Rattle.am_cast.specs.Rule.{idle}
use Rattle.am_cast.specs.Changes.{given_out}
use Rattle.am_cast.specs.Seats.{account_of, writer_of}
use Rattle.am_cast.specs.Writers.{Calm}
use Rattle.am_cast.proofs.Waiting.{fits_set, out_clear}
use Rattle.am_cast.proofs.Writers.{state_parts, given_kept}
use Rattle.am_cast.proofs.writer.state.WriterState.admit.Goals as goal

pub invariant_of-self : goal.invariant_of-self
invariant_of-self g c = (
  let i = c.self.invariant.0 in let e = c.admit_lane-seat.ensures in let seat = c.self.inside.seat in let small = c.requires.0 in let place = i.count_is in
      let lanes = c.self.inside.lanes in let begun : LaneAccount = record { stand = Live; word = 4 * c.number-count.result } in let few : length (writer_of seat.me.0).tail.log ≤ LONGEST_LOG = (let bound = i.bound in omega arith) in
      state_parts g.N.Feed.table seat.table_id c.admit_lane-seat.new.seat.table_id seat.me c.admit_lane-seat.new.seat.me c.self.inside.next.places c.self.inside.next.number c.self.inside.closed lanes (slice_set lanes c.args.lane begun)
      c.args.lane (given_out (Some c.args.note.now.value) (length (writer_of seat.me.0).tail.log) (account_of (writer_of seat.me.0) c.args.lane)) i e.same.0 e.same.1
      (ap (λ (w : View (BatchView g.row.T.Denot g.row.P.Denot) (KeyView g.row.T.Denot) g.row.A.Denot). w.writer) e.writer)
      (ap (λ (w : View (BatchView g.row.T.Denot g.row.P.Denot) (KeyView g.row.T.Denot) g.row.A.Denot). w.lane) e.writer ∙ i.alone)
      (ap (λ (w : View (BatchView g.row.T.Denot g.row.P.Denot) (KeyView g.row.T.Denot) g.row.A.Denot). w.own) e.writer ∙ i.no_own)
      small (length-set lanes c.args.lane begun ∙ i.wide)
      (given_kept (Some c.args.note.now.value) (length (writer_of seat.me.0).tail.log) c.number-count.result (account_of (writer_of seat.me.0) c.args.lane) lanes c.args.lane small i.wide (c.number-count.ensures ∙ sym place) few)
      (λ k ne. get_or-set_other lanes c.args.lane k begun no_lane ne),
  let all = c.self.invariant.0.all in let small = c.requires.0 in let r = subst (λ (q : WriterView (BatchView g.row.T.Denot g.row.P.Denot) (KeyView g.row.T.Denot) g.row.A.Denot). Calm q × ((account_of q c.args.lane).stand ≡ idle)) (sym (ap (λ (v : WriterStateView g.row.T.Denot g.row.P.Denot g.row.A.Denot). v.known) c.self.view_is)) (c.requires.1, c.requires.2) in
      let calm = r.0.1 c.args.lane small in let stand = r.1 in
      fits_set c.self.inside.seat.me.0 c.admit_lane-seat.new.seat.me.0 c.self.inside.rows c.args.lane (given_out (Some c.args.note.now.value) (length (writer_of c.self.inside.seat.me.0).tail.log) (account_of (writer_of c.self.inside.seat.me.0) c.args.lane)) (c.admit_lane-seat.ensures.writer) (omega arith) (λ i. out_clear (given_out (Some c.args.note.now.value) (length (writer_of c.self.inside.seat.me.0).tail.log) (account_of (writer_of c.self.inside.seat.me.0) c.args.lane)) i refl refl ∙ sym (out_clear (account_of (writer_of c.self.inside.seat.me.0) c.args.lane) i (calm.rest_is (λ e. omega arith)) (Rattle.am_cast.proofs.Waiting.not_true (account_of (writer_of c.self.inside.seat.me.0) c.args.lane).away (λ e. let c₂ = (calm.away_is e).0 in omega arith)))) c.self.invariant.1,
  c.self.invariant.2,
)
