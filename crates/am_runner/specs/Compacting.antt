-- What may be done between the lines of a live run: the journal is compacted.
use Rattle.std.specs.Prelude.{List, [], ◌∷◌, ◌++◌}
use Rattle.am_alert.specs.declared.alert.Alert.{Alert}
use Rattle.am_cast.specs.Posters.{PassView}
use Rattle.am_history.specs.Fronts.{FrontView}
use Rattle.am_store.specs.declared.call.Call.{Call}
use Rattle.am_config.specs.declared.config.Config.{Config}
use Rattle.am_provider.specs.Callers.{KnowsAllSent, SeesCall}
use Rattle.am_provider.specs.Headline.{AnswersVouch}
use Rattle.am_provider.specs.Histories.{EntryView}
use Rattle.am_script.specs.declared.command.Command.TheVariants.{Compact, StoredPage}
use Rattle.am_runner.specs.Reading.{OpenView}
use Rattle.am_runner.specs.Sessions.{Setting, SessionView, Does}
use Rattle.am_answers.specs.declared.answer.Answer.{Answer}

-- the store is asked how many alerts it has, by a page of none of them
abbrev pub CountsStored : Config → Setting → SessionView → SessionView → Type 0
CountsStored config setting old new = (told : List Answer) × Does config setting old (StoredPage 0 0) told new

-- the provider says of these open subscriptions, one after another, that each has taken its due so far: each
-- at a place of its own in the history
pub data Vouches (was : SessionView) : List OpenView → SessionView → Type 0 where
  nobody : Vouches was [] was
  one_more : {some : List OpenView} {mid : SessionView} {pass : PassView Alert Call}
      {front : FrontView EntryView} (one : OpenView) → Vouches was some mid
      → SeesCall mid.front front (AnswersVouch one.subscription) → KnowsAllSent mid.pass pass front
      → Vouches was (some ++ one ∷ []) (record mid { pass = pass; front = front })

-- the journal is compacted, then the stored alerts are counted, and then each open subscription is shown to
-- have taken its due
pub record Compacts (config : Config) (setting : Setting) (old new : SessionView) : Type 0 where
  pub given : List Answer
  pub mid : SessionView
  pub counted : SessionView
  pub compacts : Does config setting old Compact given mid
  pub counts : CountsStored config setting mid counted
  pub vouches : Vouches counted counted.opened new
