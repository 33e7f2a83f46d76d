-- What is left by a command for whose answer there was no memory.
use Rattle.std.specs.Prelude.{◌≡◌, Bool, true, false, List}
use Rattle.am_config.specs.declared.config.Config.{Config}
use Rattle.am_script.specs.declared.command.Command.{Command}
use Rattle.am_script.specs.declared.command.Command.TheVariants.{Post, Put, Read, Take, Groups, Mutes, Stored}
use Rattle.am_script.specs.declared.command.Command.TheVariants.{StoredPage, Get, Routes, Route}
use Rattle.am_runner.specs.Sessions.{Setting, SessionView, Does}
use Rattle.am_answers.specs.declared.answer.Answer.{Answer}

-- whether a command only asks: what is lost with its answer can be asked again
abbrev pub is_question : Command → Bool
is_question (Groups name at) = true
is_question (Mutes name at labels) = true
is_question Stored = true
is_question (StoredPage from max) = true
is_question (Get labels) = true
is_question Routes = true
is_question (Route labels) = true
is_question _ = false

-- whether nothing is lost with the answer of a command: it only asks, or there was room for its answer before
-- it was done. Of the others the answer may be lost after they were done
abbrev pub loses_nothing : Command → Bool
loses_nothing (Post at body) = false
loses_nothing (Put at alerts) = false
loses_nothing (Read name max) = false
loses_nothing (Take at) = false
loses_nothing _ = true

-- a command was done, whatever it answered
abbrev pub IsDone : Config → Setting → SessionView → Command → SessionView → Type 0
IsDone config setting old command new = (answers : List Answer) × Does config setting old command answers new

-- what a command leaves that loses nothing with its answer: it was not done, or it only asked
pub data IsUnanswered (config : Config) (setting : Setting) (old : SessionView) (command : Command)
    : SessionView → Type 0 where
  not_done : IsUnanswered config setting old command old
  only_asked : {new : SessionView} → is_question command ≡ true → IsDone config setting old command new
      → IsUnanswered config setting old command new
