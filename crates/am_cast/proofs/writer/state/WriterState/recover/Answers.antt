use Rattle.std.proofs.Common.{rules, arith, ◌≡◌, ◌/◌, refl, sym, ap, subst, true}
use Rattle.am_segment.specs.Segments.{KeyView}
use Rattle.am_cast.specs.declared.batch_view.BatchView.{BatchView}
use Rattle.am_cast.specs.declared.views.WriterView.{WriterView}
use Rattle.am_cast.specs.inside.WriterStates.{WriterStateView}
use Rattle.am_cast.specs.Changes.{back, loaded}
use Rattle.am_cast.specs.Seats.{account_of, writer_of}
use Rattle.am_cast.proofs.Waiting.{fits_set, out_back}
use Rattle.am_cast.proofs.writer.state.WriterState.recover.Goals as goal

pub invariant_of-self : goal.invariant_of-self
invariant_of-self g c = (
  search rules,
  let all = c.self.invariant.0.all in let small = c.requires.0 in let r = subst (λ (q : WriterView (BatchView g.row.T.Denot g.row.P.Denot) (KeyView g.row.T.Denot) g.row.A.Denot). ((account_of q c.args.lane).away ≡ true) × ((account_of q c.args.lane).cleared ≡ (account_of q c.args.lane).stop)) (sym (ap (λ (v : WriterStateView g.row.T.Denot g.row.P.Denot g.row.A.Denot). v.known) c.self.view_is)) (c.requires.2, c.requires.3) in
      fits_set c.self.inside.seat.me.0 c.recover_key-found.new.seat.me.0 c.self.inside.rows c.args.lane (back (c.recover_key-found.result / 4) (loaded (account_of (writer_of c.self.inside.seat.me.0) c.args.lane))) ((c.recover_key-found.ensures.back c.if-found-eq0.true).0) (omega arith) (λ i. out_back (c.recover_key-found.result / 4) (account_of (writer_of c.self.inside.seat.me.0) c.args.lane) i r.0 r.1) c.self.invariant.1,
  c.self.invariant.2,
)

pub invariant_of-self-else-found-eq0 : goal.invariant_of-self-else-found-eq0
invariant_of-self-else-found-eq0 g c = (
  search rules,
  let all = c.self.invariant.0.all in let small = c.requires.0 in
      fits_set c.self.inside.seat.me.0 c.recover_key-found.new.seat.me.0 c.self.inside.rows c.args.lane (loaded (account_of (writer_of c.self.inside.seat.me.0) c.args.lane)) (c.recover_key-found.ensures.away c.if-found-eq0.false) (omega arith) (λ i. refl) c.self.invariant.1,
  c.self.invariant.2,
)
