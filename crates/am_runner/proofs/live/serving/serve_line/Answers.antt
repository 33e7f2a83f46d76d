use Rattle.std.proofs.Common.{inr, List, ℕ, [], sym, subst, append-nil}
use Rattle.am_script.proofs.Outputs.{appends_kept}
use Rattle.am_runner.specs.Sessions.{setting_of}
use Rattle.am_runner.specs.live.Answering.{Answers}
use Rattle.am_runner.specs.live.Reading.{IsInputOf}
use Rattle.am_runner.proofs.live.OneByOne.{on_err_of}
use Rattle.am_runner.proofs.live.serving.serve_line.Goals as goal

pub returns-in_err-write_text-clause-err : goal.returns-in_err-write_text-clause-err
returns-in_err-write_text-clause-err g c =
    let part = c.in_err-write_text.ensures.written in
    let text = c.as_bytes.result.now in
    on_err_of c.from_residual-in_err-write_text.result (λ (bytes : List ℕ) (read : IsInputOf bytes c.args.line.now).
    let answered : Answers c.args.context.now.config (setting_of g.N.Recorded.places g.N.Recorded.policy c.args.context.now.provider.now.resolve_timeout) c.args.form c.args.number bytes c.args.run.now text c.answer_input.new.run =
    subst (λ (printed : List ℕ). Answers c.args.context.now.config (setting_of g.N.Recorded.places g.N.Recorded.policy c.args.context.now.provider.now.resolve_timeout) c.args.form c.args.number bytes c.args.run.now printed c.answer_input.new.run) (sym c.as_bytes.ensures.value) (c.in_ok-text.ensures.answers bytes read) in (
      part.written,
      inr (bytes, part.rest, c.answer_input.new.run, subst (λ (printed : List ℕ). Answers c.args.context.now.config (setting_of g.N.Recorded.places g.N.Recorded.policy c.args.context.now.provider.now.resolve_timeout) c.args.form c.args.number bytes c.args.run.now printed c.answer_input.new.run) (sym part.whole) answered),
      part.appended,
    ))

pub returns-clause-err : goal.returns-clause-err
returns-clause-err g c =
    let text = c.as_bytes.result.now in λ bytes read.
    let answered : Answers c.args.context.now.config (setting_of g.N.Recorded.places g.N.Recorded.policy c.args.context.now.provider.now.resolve_timeout) c.args.form c.args.number bytes c.args.run.now text c.answer_input.new.run =
    subst (λ (printed : List ℕ). Answers c.args.context.now.config (setting_of g.N.Recorded.places g.N.Recorded.policy c.args.context.now.provider.now.resolve_timeout) c.args.form c.args.number bytes c.args.run.now printed c.answer_input.new.run) (sym c.as_bytes.ensures.value) (c.in_ok-text.ensures.answers bytes read) in (
      text,
      inr (bytes, [], c.answer_input.new.run, subst (λ (printed : List ℕ). Answers c.args.context.now.config (setting_of g.N.Recorded.places g.N.Recorded.policy c.args.context.now.provider.now.resolve_timeout) c.args.form c.args.number bytes c.args.run.now printed c.answer_input.new.run) (sym (append-nil text)) answered),
      appends_kept (g.O.Write.contents c.args.out.now) (g.O.Write.contents c.write_text.new.out) (g.O.Write.contents c.flush.new.self) text c.in_ok-write_text.ensures.written c.in-Err.ensures.bytes,
    )
