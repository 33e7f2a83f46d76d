use Rattle.std.proofs.Common.{rules, ◌≡◌, ◌<◌, ◌≤◌, List, ℕ, [], length, string_bytes, sym, subst}
use Rattle.std.proofs.lemmas.Result.{IfOk-weaker}
use Rattle.am_script.specs.declared.limits.TheConstants.{LONGEST_LINE}
use Rattle.am_runner.specs.Sessions.{setting_of}
use Rattle.am_runner.specs.live.Answering.{Answers, nothing_asked, too_large, no_memory, bad_line, obeyed}
use Rattle.am_runner.proofs.live.OneByOne.{none_of}
use Rattle.am_runner.proofs.live.answering.answer_line.Goals as goal

pub returns-then-is_empty-clause-answers : goal.returns-then-is_empty-clause-answers
returns-then-is_empty-clause-answers g c =
    let zero : length c.args.bytes.now ≡ 0 = search rules in
    let none : c.args.bytes.now ≡ [] = none_of c.args.bytes.now zero in
    let printed : string_bytes c.new.result ≡ [] = search rules in
    subst (λ (text : List ℕ). Answers c.args.context.now.config (setting_of g.N.Recorded.places g.N.Recorded.policy c.args.context.now.provider.now.resolve_timeout) c.args.form c.args.number c.args.bytes.now c.args.run.now text c.args.run.now) (sym printed) (nothing_asked none)

pub returns-then-bytes-gt-LONGEST_LINE-clause-answers : goal.returns-then-bytes-gt-LONGEST_LINE-clause-answers
returns-then-bytes-gt-LONGEST_LINE-clause-answers g c =
    let long : LONGEST_LINE < length c.args.bytes.now = search rules in
    IfOk-weaker c.refused.result _ _ (λ text is.
    subst (λ (printed : List ℕ). Answers c.args.context.now.config (setting_of g.N.Recorded.places g.N.Recorded.policy c.args.context.now.provider.now.resolve_timeout) c.args.form c.args.number c.args.bytes.now c.args.run.now printed c.args.run.now) (sym is) (too_large long)) c.refused.ensures

pub returns-in-Err-BadLine-clause-answers : goal.returns-in-Err-BadLine-clause-answers
returns-in-Err-BadLine-clause-answers g c =
    let some : 0 < length c.args.bytes.now = search rules in
    let short : length c.args.bytes.now ≤ LONGEST_LINE = search rules in
    IfOk-weaker c.refused-in-Err-BadLine.result _ _ (λ text is.
    subst (λ (printed : List ℕ). Answers c.args.context.now.config (setting_of g.N.Recorded.places g.N.Recorded.policy c.args.context.now.provider.now.resolve_timeout) c.args.form c.args.number c.args.bytes.now c.args.run.now printed c.args.run.now) (sym is)
    (bad_line some short (rw c.in-Err-BadLine.field-0-is at c.in-Err-BadLine.ensures))) c.refused-in-Err-BadLine.ensures

pub returns-in-Ok-clause-answers : goal.returns-in-Ok-clause-answers
returns-in-Ok-clause-answers g c =
    let some : 0 < length c.args.bytes.now = search rules in
    let short : length c.args.bytes.now ≤ LONGEST_LINE = search rules in
    IfOk-weaker c.obey.result _ _ (λ text does. obeyed some short c.in-Ok.ensures does) c.obey.ensures.obeys

pub returns-in-Err-clause-answers : goal.returns-in-Err-clause-answers
returns-in-Err-clause-answers g c =
    let some : 0 < length c.args.bytes.now = search rules in
    IfOk-weaker c.no_memory.result _ _ (λ text is.
    subst (λ (printed : List ℕ). Answers c.args.context.now.config (setting_of g.N.Recorded.places g.N.Recorded.policy c.args.context.now.provider.now.resolve_timeout) c.args.form c.args.number c.args.bytes.now c.args.run.now printed c.args.run.now) (sym is) (no_memory some)) c.no_memory.ensures
