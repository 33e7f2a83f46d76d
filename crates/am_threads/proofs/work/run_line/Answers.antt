use Rattle.std.proofs.Common.{Result, IfOk, sym, subst}
use Rattle.std.specs.Global.{Vec}
use Rattle.am_runner.specs.Sessions.{setting_of, SessionView}
use Rattle.am_runner.specs.Turning.{order_of}
use Rattle.am_threads.specs.Working.{LooksOn, RunsLine}
use Rattle.am_answers.specs.declared.answer.Answer.{Answer}
use Rattle.am_runner.proofs.Results.{if_ok_map}
use Rattle.am_provider.proofs.Turns.{prefix_then}
use Rattle.am_runner.proofs.Turning.{begins_more, ends_more, turn_of}
use Rattle.am_threads.proofs.work.run_line.Goals.{then-failed, else-failed}
use Rattle.am_threads.proofs.work.run_line.Goals as goal

pub returns-clause-kept : goal.returns-clause-kept
returns-clause-kept g c =
    prefix_then _ _ _ (begins_more g.T.Turns.ordered _ _ _ _ _ c.begin_turn.ensures.begun).0 (ends_more g.T.Turns.ordered _ _ _ _ _ c.end_turn.ensures.ended).0

pub returns-clause-does : goal.returns-clause-does
returns-clause-does g c = λ turns longer.
    let ordered = g.T.Turns.ordered in
    let config = c.args.context.now.config in
    let setting = setting_of g.N.Recorded.places g.N.Recorded.policy c.args.context.now.provider.now.resolve_timeout in
    let line = c.args.line.now in
    let begins = begins_more ordered _ _ _ _ _ c.begin_turn.ensures.begun in
    let ends = ends_more ordered _ _ _ _ _ c.end_turn.ensures.ended in
    let turn = turn_of ordered _ _ _ _ turns _ _ _ _ c.begin_turn.ensures.begun c.end_turn.ensures.ended longer in
    elim c.if-failed.branch [
      | then-failed w ↦ subst (λ (r : Result (Vec Answer) _). IfOk r (λ given. RunsLine config setting (order_of ordered turns) c.args.turn.now.at line c.args.session.now given.items c.end_turn.new.self)) (sym w.given-is) tt
      | else-failed w ↦
          subst (λ (r : Result (Vec Answer) _). IfOk r (λ given. RunsLine config setting (order_of ordered turns) c.args.turn.now.at line c.args.session.now given.items c.end_turn.new.self)) (sym w.given-is)
          (if_ok_map w.run-given.result w.run-given.ensures.does (λ given does. record {
            begun = c.begin_turn.new.self;
            done = w.run-given.new.self;
            before = (begins.1, c.begin_turn.ensures.same);
            does = does;
            after = subst (λ (session : SessionView). LooksOn session c.end_turn.new.self) w.session-is (ends.1, c.end_turn.ensures.same);
            turn = turn;
          }))
    ]
