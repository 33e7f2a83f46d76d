-- What was read of a subscription, and what was due to it.
use Rattle.std.specs.Prelude.{◌≡◌, ℕ, List, ◌++◌, slice_get, Option, Some, None}
use Rattle.std.specs.Global.{Vec}
use Rattle.std.specs.List.{filter_map}
use mathlib.Core.List.{IsPrefix}
use Rattle.am_alert.specs.declared.alert.Alert.{Alert}
use Rattle.am_store.specs.declared.call.Call.{Call}
use Rattle.am_store.specs.Broadcast.{due, IsFront}
use Rattle.am_cast.specs.Posters.{PassView}
use Rattle.am_history.specs.Fronts.{FrontView}
use Rattle.am_provider.specs.Histories.{EntryView, whole}
use Rattle.am_provider.specs.Subscriptions.{taken}
use Rattle.am_config.specs.declared.config.Config.{Config}
use Rattle.am_script.specs.declared.command.Line.{Line}
use Rattle.am_runner.specs.Reading.{OpenView, ReadAnswers}
use Rattle.am_runner.specs.Sessions.{Setting, SessionView}
use Rattle.am_runner.specs.Turning.{Order}
use Rattle.am_threads.specs.Working.{Works, LeavesLast}
use Rattle.am_answers.specs.declared.answer.Answer.{Answer}
use Rattle.am_answers.specs.declared.answer.Answer.TheVariants as answer

-- the alert that an answer shows
abbrev pub item_in : Answer → Option Alert
item_in (answer.Item alert) = Some alert
item_in _ = None

-- the alerts that some answers show, in order
abbrev pub items_in : List Answer → List Alert
items_in answers = filter_map item_in answers

-- the alerts that a read prints continue what its subscription had taken
abbrev pub ReadsContinue : Type 0
ReadsContinue = (old new : OpenView) (max : ℕ) (answers : List Answer) → ReadAnswers old max answers new
    → taken new.subscription ≡ taken old.subscription ++ items_in answers

-- what each of these subscriptions has taken begins what is due to it after a history
abbrev pub AreOwed : List EntryView → List OpenView → Type 0
AreOwed entries opened = (index : ℕ) (one : OpenView) → slice_get opened index ≡ Some one
    → IsFront (taken one.subscription) (due (whole entries) one.subscription.at)

-- at each moment of a thread's work: if it runs its other lines and then leaves what is open, what each
-- subscription has taken begins what is due to it after the whole history
abbrev pub ReadIsDue : Type 0
ReadIsDue = (config : Config) (setting : Setting) (order : Order) (thread first number : ℕ)
    (now end : SessionView) (pass : PassView Alert Call) (front : FrontView EntryView)
    (lines : List Line) (answers : List (Vec Answer)) (entries : List EntryView)
    → Works config setting order thread first now lines answers end → LeavesLast order number end pass front
    → IsPrefix front.seen entries → AreOwed entries now.opened
