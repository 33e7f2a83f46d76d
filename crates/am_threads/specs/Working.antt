-- The outcome of a thread's run of its lines.
use Rattle.std.specs.Prelude.{◌≡◌, ◌≢◌, ℕ, ◌+◌, List, [], ◌∷◌, ◌++◌, length, Result, Ok}
use Rattle.std.specs.Global.{Vec}
use Rattle.am_alert.specs.declared.alert.Alert.{Alert}
use Rattle.am_store.specs.declared.call.Call.{Call}
use Rattle.am_cast.specs.Posters.{PassView}
use Rattle.am_history.specs.Fronts.{FrontView}
use Rattle.am_provider.specs.Histories.{EntryView}
use Rattle.am_config.specs.declared.config.Config.{Config}
use Rattle.am_script.specs.declared.command.Line.{Line}
use Rattle.am_runner.specs.Sessions.{Setting, SessionView, Does, LeavesAll, new_session}
use Rattle.am_provider.specs.Turns.{SeesMore}
use Rattle.am_runner.specs.Turning.{Order, IsTurn}
use Rattle.am_answers.specs.declared.answer.Answer.{Answer}

-- a session's caller sees more of the history, and makes no call
abbrev pub LooksOn : SessionView → SessionView → Type 0
LooksOn old new = SeesMore old.front new.front × (new ≡ record old { front = new.front })

-- what a thread's own line, the one at a number of the script, does to its session in its turn, and answers
pub record RunsLine (config : Config) (setting : Setting) (order : Order) (at : ℕ) (line : Line)
    (old : SessionView) (given : List Answer) (new : SessionView) : Type 0 where
  pub begun : SessionView
  pub done : SessionView
  pub before : LooksOn old begun
  pub does : Does config setting begun line.command given done
  pub after : LooksOn done new
  pub turn : IsTurn order at begun.front new.front

-- the lines one after another, from the one at a number on, with what each of the thread's own answers: those
-- of other threads do and answer nothing here
pub data Works (config : Config) (setting : Setting) (order : Order) (thread first : ℕ) (begun : SessionView)
    : List Line → List (Vec Answer) → SessionView → Type 0 where
  nothing : Works config setting order thread first begun [] [] begun
  own : {lines : List Line} {answers : List (Vec Answer)} {old new : SessionView} (line : Line)
      (given : Vec Answer) → line.thread ≡ thread
      → Works config setting order thread first begun lines answers old
      → RunsLine config setting order (first + length lines) line old given.items new
      → Works config setting order thread first begun (lines ++ line ∷ []) (answers ++ given ∷ []) new
  others : {lines : List Line} {answers : List (Vec Answer)} {old : SessionView} (line : Line)
      → line.thread ≢ thread → Works config setting order thread first begun lines answers old
      → Works config setting order thread first begun (lines ++ line ∷ []) answers old

-- in its last turn, whose number comes after the lines' and those of the threads before it, a thread leaves
-- what it still has open
pub record LeavesLast (order : Order) (number : ℕ) (old : SessionView) (pass : PassView Alert Call)
    (front : FrontView EntryView) : Type 0 where
  pub begun : SessionView
  pub left : FrontView EntryView
  pub looks : LooksOn old begun
  pub leaves : LeavesAll begun (record { pass = pass; front = left; opened = [] })
  pub sees : SeesMore left front
  pub turn : IsTurn order number begun.front front

-- a thread's work, of which its pass and its front come back: it ran all of its lines, with an answer each,
-- and then left what it still had open
pub record IsWork (config : Config) (setting : Setting) (order : Order) (lines : List Line) (thread : ℕ)
    (answers : List (Vec Answer)) (pass : PassView Alert Call) (front : FrontView EntryView) : Type 0 where
  pub seat : ℕ
  pub end : SessionView
  pub works : Works config setting order thread 0 (new_session seat) lines answers end
  pub leaves : LeavesLast order (length lines + thread) end pass front

-- a list has an item more at its end, the one of the result
abbrev pub Adds : {A E : Type 0} → List A → Result A E → List A → Type 0
Adds old given new = (one : _) × (given ≡ Ok one) × (new ≡ old ++ one ∷ [])
