use Rattle.std.proofs.Common.{rules, arith, ◌/◌, ◌%◌, length, refl, sym, ap, subst}
use Rattle.am_segment.specs.Segments.{KeyView}
use Rattle.am_cast.specs.declared.batch_view.BatchView.{BatchView}
use Rattle.am_cast.specs.declared.views.WriterView.{WriterView}
use Rattle.am_cast.specs.inside.WriterStates.{WriterStateView}
use Rattle.am_cast.specs.Changes.{marked, known_to, severed}
use Rattle.am_cast.specs.Seats.{account_of, writer_of}
use Rattle.am_cast.specs.Writers.{IsCalm, IsBehind}
use Rattle.am_cast.proofs.Waiting.{fits_set, out_known, out_severed}
use Rattle.am_cast.proofs.writer.state.WriterState.sever.Goals as goal

pub invariant_of-self : goal.invariant_of-self
invariant_of-self g c = (
  search rules,
  let all = c.self.invariant.0.all in let small = c.requires.account.0 in let both = subst (λ (q : WriterView (BatchView g.row.T.Denot g.row.P.Denot) (KeyView g.row.T.Denot) g.row.A.Denot). IsBehind q c.args.lane × IsCalm (length q.tail.log) q.tail.places (account_of q c.args.lane)) (sym (ap (λ (v : WriterStateView g.row.T.Denot g.row.P.Denot g.row.A.Denot). v.known) c.self.view_is)) (c.requires.account.2, c.requires.account.3) in let li = both.1.live_is both.0.0 in let far = both.0.1 in let stop = li.1 in let some = c.self.invariant.0.some_places.0 in let places = c.self.invariant.0.places_is in
      fits_set c.self.inside.seat.me.0 c.cut_lane-found.new.seat.me.0 c.self.inside.rows c.args.lane (severed (c.cut_lane-found.result / 2 % 2) (account_of (writer_of c.self.inside.seat.me.0) c.args.lane)) (c.cut_lane-found.ensures.cut c.if-found-word.true) (omega arith) (λ i. out_severed (c.cut_lane-found.result / 2 % 2) (account_of (writer_of c.self.inside.seat.me.0) c.args.lane) i (omega arith) li.4 li.0 (omega arith)) c.self.invariant.1,
  c.self.invariant.2,
)

pub invariant_of-self-then-found : goal.invariant_of-self-then-found
invariant_of-self-then-found g c = (
  search rules,
  let all = c.self.invariant.0.all in let small = c.requires.account.0 in
      fits_set c.self.inside.seat.me.0 c.cut_lane-found.new.seat.me.0 c.self.inside.rows c.args.lane (marked (account_of (writer_of c.self.inside.seat.me.0) c.args.lane)) ((c.cut_lane-found.ensures.moved c.if-found-word.false).0 c.if-found.true) (omega arith) (λ i. refl) c.self.invariant.1,
  c.self.invariant.2,
)

pub invariant_of-self-2 : goal.invariant_of-self-2
invariant_of-self-2 g c = (
  search rules,
  let all = c.self.invariant.0.all in let small = c.requires.account.0 in let both = subst (λ (q : WriterView (BatchView g.row.T.Denot g.row.P.Denot) (KeyView g.row.T.Denot) g.row.A.Denot). IsBehind q c.args.lane × IsCalm (length q.tail.log) q.tail.places (account_of q c.args.lane)) (sym (ap (λ (v : WriterStateView g.row.T.Denot g.row.P.Denot g.row.A.Denot). v.known) c.self.view_is)) (c.requires.account.2, c.requires.account.3) in let li = both.1.live_is both.0.0 in
      fits_set c.self.inside.seat.me.0 c.cut_lane-found.new.seat.me.0 c.self.inside.rows c.args.lane (known_to c.cut_lane-found.result (account_of (writer_of c.self.inside.seat.me.0) c.args.lane)) (((c.cut_lane-found.ensures.moved c.if-found-word.false).1 c.if-found.false).0) (omega arith) (λ i. out_known c.cut_lane-found.result (account_of (writer_of c.self.inside.seat.me.0) c.args.lane) i li.4) c.self.invariant.1,
  c.self.invariant.2,
)
