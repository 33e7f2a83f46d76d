use Rattle.std.proofs.Common.{◌≡◌, ◌∙◌, ◌+◌, ℕ, [], length, ap, subst}
use Rattle.am_runner.specs.Sessions.{SessionView, new_session, setting_of}
use Rattle.am_runner.specs.Turning.{IsTurn, order_of}
use Rattle.am_threads.specs.Working.{Works}
use Rattle.am_runner.proofs.Results.{if_ok_map}
use Rattle.am_provider.proofs.Turns.{prefix_then}
use Rattle.am_runner.proofs.Turning.{begins_more, ends_more, turn_of}
use Rattle.am_threads.proofs.work.work.Goals as goal

pub returns : goal.returns
returns g c = λ turns longer.
    let ordered = g.T.Turns.ordered in
    let order = order_of ordered turns in
    let config = c.args.context.now.config in
    let setting = setting_of g.N.Recorded.places g.N.Recorded.policy c.args.context.now.provider.now.resolve_timeout in
    let ended = c.end_session-caller.ensures in
    let begins = begins_more ordered _ _ _ _ _ c.begin_turn.ensures.begun in
    let ends = ends_more ordered _ _ _ _ _ ended.2 in
    let turn = turn_of ordered _ _ _ _ turns _ _ _ _ c.begin_turn.ensures.begun ended.2 longer in
    let ran = c.run_lines-answers.ensures.works turns (prefix_then _ _ turns begins.0 (prefix_then _ _ turns ends.0 longer)) in
    let seat = c.args.caller.front.seat in
    let new : c.begin-session.result ≡ new_session seat = c.begin-session.ensures
    ∙ (ap (λ p. record { pass = p; front = c.args.caller.front; opened = [] }) c.requires.new.0
    ∙ ap (λ f. record { pass = (new_session seat).pass; front = f; opened = [] }) c.requires.new.1) in
    if_ok_map c.run_lines-answers.result ran (λ answers works. record {
      seat = seat;
      end = c.run_lines-answers.new.session;
      works = subst (λ (begun : SessionView). Works config setting order c.args.thread 0 begun c.args.lines.now answers.items c.run_lines-answers.new.session) new works;
      leaves = record {
        begun = c.begin_turn.new.self;
        left = ended.0;
        looks = (begins.1, c.begin_turn.ensures.same);
        leaves = ended.1;
        sees = ends.1;
        turn = subst (λ (n : ℕ). IsTurn order (length c.args.lines.now + n) c.begin_turn.new.self.front c.end_session-caller.result.front) c.index.ensures.value turn;
      };
    })
