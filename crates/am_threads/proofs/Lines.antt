-- One line after another.
use Rattle.std.proofs.Common.{◌≡◌, ◌∙◌, ℕ, suc, ◌+◌, ◌<◌, List, [], ◌∷◌, ◌++◌, get_or, length, take, Result, IfOk, ap, sym, subst, arith}
use Rattle.std.proofs.Math.Seq.{take-suc}
use Rattle.std.specs.Global.{Vec}
use Rattle.am_config.specs.declared.config.Config.{Config}
use Rattle.am_script.specs.declared.command.Line.{Line}
use Rattle.am_runner.specs.Sessions.{Setting, SessionView}
use Rattle.am_runner.specs.Turning.{Order}
use Rattle.am_threads.specs.Working.{Works, RunsLine, Adds, own}
use Rattle.am_answers.specs.declared.answer.Answer.{Answer}

-- the lines up to one and that one
pub one_more_of : (lines : List Line) (at : ℕ) (line : Line) → at < length lines → line ≡ get_or lines at line → take (at + 1) lines ≡ take at lines ++ line ∷ []
one_more_of lines at line short is =
    let next : at + 1 ≡ suc at = omega arith in
    ap (λ (n : ℕ). take n lines) next ∙ (take-suc lines at line short ∙ ap (λ (last : Line). take at lines ++ last ∷ []) (sym is))

pub more_work : {E : Type 0} (config : Config) (setting : Setting) (order : Order) (thread first : ℕ) (begun old new : SessionView) (lines : List Line) (line : Line) (answers all : List (Vec Answer)) (given : Result (Vec Answer) E)
    → line.thread ≡ thread → Works config setting order thread first begun lines answers old
    → IfOk given (λ answered. RunsLine config setting order (first + length lines) line old answered.items new)
    → Adds answers given all → Works config setting order thread first begun (lines ++ line ∷ []) all new
more_work config setting order thread first begun old new lines line answers all given mine before runs (answered, same, is) =
    subst (λ (every : List (Vec Answer)). Works config setting order thread first begun (lines ++ line ∷ []) every new) (sym is)
    (own line answered mine before (subst (λ (r : Result (Vec Answer) _). IfOk r (λ one. RunsLine config setting order (first + length lines) line old one.items new)) same runs))
