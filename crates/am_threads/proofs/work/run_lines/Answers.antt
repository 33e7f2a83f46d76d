use Rattle.std.proofs.Common.{◌≡◌, ◌≢◌, refl, ◌∙◌, ◌+◌, [], ℕ, List, IfOk, length, sym, subst, take, rules, arith}
use Rattle.std.proofs.lemmas.Bool.{false≢true}
use Rattle.std.proofs.lemmas.List.{length-take-le}
use Rattle.std.specs.Global.{Vec}
use Rattle.am_script.specs.declared.command.Line.{Line}
use Rattle.am_runner.specs.Sessions.{setting_of}
use Rattle.am_runner.specs.Turning.{order_of}
use Rattle.am_threads.specs.Working.{RunsLine, Works, nothing, others}
use Rattle.am_answers.specs.declared.answer.Answer.{Answer}
use Rattle.am_threads.proofs.Lines.{more_work, one_more_of}
use Rattle.am_runner.proofs.Results.{on_ok_of}
use Rattle.am_provider.proofs.Turns.{prefix_then}
use Rattle.am_threads.proofs.work.run_lines.Goals.{then-is_err, else-is_err}
use Rattle.am_threads.proofs.work.run_lines.Goals as goal

pub loop-at-init : goal.loop-at-init
loop-at-init g c = (
  refl,
  λ still turns longer.
      subst (λ (answers : List (Vec Answer)). Works c.args.context.now.config (setting_of g.N.Recorded.places g.N.Recorded.policy c.args.context.now.provider.now.resolve_timeout) (order_of g.T.Turns.ordered turns) c.args.thread 0 c.args.session.now [] answers c.args.session.now) (sym c.new-answers.ensures.items) nothing,
)

pub loop-at-preserved-then-ne : goal.loop-at-preserved-then-ne
loop-at-preserved-then-ne g c = (
  c.loop-at.invariant.0,
  λ still turns longer.
      let line = c.index-lines-at.result in
      let apart : line.thread ≢ c.args.thread = search rules in
      subst (λ (front : List Line). Works c.args.context.now.config (setting_of g.N.Recorded.places g.N.Recorded.policy c.args.context.now.provider.now.resolve_timeout) (order_of g.T.Turns.ordered turns) c.args.thread 0 c.args.session.now front c.loop-at.answers.items c.loop-at.session)
      (sym (one_more_of c.args.lines.now c.loop-at.at line c.loop-at-test.true c.index-lines-at.is))
      (others line apart (c.loop-at.invariant.1 still turns longer)),
)

pub loop-at-preserved : goal.loop-at-preserved
loop-at-preserved g c = (
  c.run_line-given.ensures.same ∙ c.loop-at.invariant.0,
  λ still turns longer.
      let config = c.args.context.now.config in
      let setting = setting_of g.N.Recorded.places g.N.Recorded.policy c.args.context.now.provider.now.resolve_timeout in
      let order = order_of g.T.Turns.ordered turns in
      let lines = c.args.lines.now in
      let at = c.loop-at.at in
      let line = c.index-lines-at.result in
      let mine : line.thread ≡ c.args.thread = search rules in
      let number : at ≡ 0 + length (take at lines) = omega (arith, length-take-le at lines (omega (arith, c.loop-at-test.true))) in
      let does = subst (λ context. IfOk c.run_line-given.result (λ given. RunsLine context.config (setting_of g.N.Recorded.places g.N.Recorded.policy context.provider.now.resolve_timeout) order at line c.loop-at.session given.items c.run_line-given.new.session)) c.loop-at.invariant.0 (c.run_line-given.ensures.does turns longer) in
      let runs = subst (λ (n : ℕ). IfOk c.run_line-given.result (λ given. RunsLine config setting order n line c.loop-at.session given.items c.run_line-given.new.session)) number does in
      elim c.if-is_err.branch [
        | then-is_err w ↦ absurd (false≢true (sym still ∙ w.failed-is))
        | else-is_err w ↦
            subst (λ (front : List Line). Works config setting order c.args.thread 0 c.args.session.now front c.add.new.answers.items c.run_line-given.new.session)
            (sym (one_more_of lines at line c.loop-at-test.true c.index-lines-at.is))
            (more_work config setting order c.args.thread 0 c.args.session.now c.loop-at.session c.run_line-given.new.session (take at lines) line c.loop-at.answers.items c.add.new.answers.items c.run_line-given.result mine
            (c.loop-at.invariant.1 (sym w.failed-is ∙ still) turns (prefix_then _ _ turns c.run_line-given.ensures.kept longer)) runs
            (on_ok_of c.add.result (sym c.is_err.ensures.value ∙ w.if-is_err.false) c.add.ensures))
      ],
)
