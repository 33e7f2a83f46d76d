-- What a command leaves that found no memory for its answer.
use Rattle.std.proofs.Common.{◌≡◌, ◌∙◌, true, ap, sym, subst}
use Rattle.am_config.specs.declared.config.Config.{Config}
use Rattle.am_script.specs.declared.command.Command.{Command}
use Rattle.am_runner.specs.Sessions.{Setting, SessionView}
use Rattle.am_runner.specs.Unanswered.{IsDone, IsUnanswered, is_question, not_done, only_asked}

-- the session is as it was
pub kept : (config : Config) (setting : Setting) (old new : SessionView) (command : Command) → new ≡ old
    → IsUnanswered config setting old command new
kept config setting old new command is = subst (IsUnanswered config setting old command) (sym is) not_done

-- a question was asked
pub asked : (config : Config) (setting : Setting) (old new : SessionView) (command question : Command) → command ≡ question
    → is_question question ≡ true → IsDone config setting old question new → IsUnanswered config setting old command new
asked config setting old new command question is asks done =
    only_asked (ap is_question is ∙ asks) (subst (λ (one : Command). IsDone config setting old one new) (sym is) done)
