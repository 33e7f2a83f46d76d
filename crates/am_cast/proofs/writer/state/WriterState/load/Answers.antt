use Rattle.std.proofs.Common.{rules, arith, refl, ap, ◌∙◌}
use Rattle.am_cast.specs.inside.WriterStates.{WriterStateView}
use Rattle.am_cast.specs.Changes.{marked, known_to}
use Rattle.am_cast.specs.Seats.{account_of, writer_of}
use Rattle.am_cast.proofs.Waiting.{fits_set, out_known}
use Rattle.am_cast.proofs.writer.state.WriterState.load.Goals as goal

pub invariant_of-self : goal.invariant_of-self
invariant_of-self g c = (
  search rules,
  let all = c.self.invariant.0.all in let small = c.requires.0 in
      fits_set c.self.inside.seat.me.0 c.find_word-found.new.seat.me.0 c.self.inside.rows c.args.lane (marked (account_of (writer_of c.self.inside.seat.me.0) c.args.lane)) (c.find_word-found.ensures.found.0 c.if-found.true) (omega arith) (λ i. refl) c.self.invariant.1,
  c.self.invariant.2,
)

pub invariant_of-self-2 : goal.invariant_of-self-2
invariant_of-self-2 g c = (
  search rules,
  let all = c.self.invariant.0.all in let small = c.requires.0 in
      fits_set c.self.inside.seat.me.0 c.find_word-found.new.seat.me.0 c.self.inside.rows c.args.lane (known_to c.find_word-found.result (account_of (writer_of c.self.inside.seat.me.0) c.args.lane)) (c.find_word-found.ensures.found.1 c.if-found.false).0 (omega arith)
      (λ i. out_known c.find_word-found.result (account_of (writer_of c.self.inside.seat.me.0) c.args.lane) i (ap (λ (v : WriterStateView g.row.T.Denot g.row.P.Denot g.row.A.Denot). (account_of v.known c.args.lane).away) c.self.view_is ∙ c.requires.3)) c.self.invariant.1,
  c.self.invariant.2,
)
