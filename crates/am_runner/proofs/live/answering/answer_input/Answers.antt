use Rattle.std.proofs.Common.{List, ℕ, string_bytes, sym, subst, ◌∙◌}
use Rattle.std.proofs.lemmas.Result.{IfOk-weaker}
use Rattle.am_runner.specs.Sessions.{setting_of}
use Rattle.am_runner.specs.live.Answering.{Answers, no_memory, too_large}
use Rattle.am_runner.specs.live.Reading.{IsInputOf}
use Rattle.am_runner.proofs.live.answering.answer_input.Goals as goal

pub returns-in-Read-clause-answers : goal.returns-in-Read-clause-answers
returns-in-Read-clause-answers g c =
    IfOk-weaker c.answer_line.result _ _ (λ text answers bytes read.
    let kept = subst (IsInputOf bytes) c.in-Read.is read in
    subst (λ (all : List ℕ). Answers c.args.context.now.config (setting_of g.N.Recorded.places g.N.Recorded.policy c.args.context.now.provider.now.resolve_timeout) c.args.form c.args.number all c.args.run.now (string_bytes text) c.answer_line.new.run) (c.deref.ensures.value ∙ kept.0) answers) c.answer_line.ensures.answers

pub returns-in-TooLong-clause-answers : goal.returns-in-TooLong-clause-answers
returns-in-TooLong-clause-answers g c =
    IfOk-weaker c.refused.result _ _ (λ text is bytes read.
    subst (λ (printed : List ℕ). Answers c.args.context.now.config (setting_of g.N.Recorded.places g.N.Recorded.policy c.args.context.now.provider.now.resolve_timeout) c.args.form c.args.number bytes c.args.run.now printed c.args.run.now) (sym is) (too_large (subst (IsInputOf bytes) c.in-TooLong.is read))) c.refused.ensures

pub returns-in-NoMemory-clause-answers : goal.returns-in-NoMemory-clause-answers
returns-in-NoMemory-clause-answers g c =
    IfOk-weaker c.no_memory.result _ _ (λ text is bytes read.
    subst (λ (printed : List ℕ). Answers c.args.context.now.config (setting_of g.N.Recorded.places g.N.Recorded.policy c.args.context.now.provider.now.resolve_timeout) c.args.form c.args.number bytes c.args.run.now printed c.args.run.now) (sym is) (no_memory (subst (IsInputOf bytes) c.in-NoMemory.is read))) c.no_memory.ensures
