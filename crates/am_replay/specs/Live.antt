-- A live run: what the lines so far answer is written, whatever comes later.
use Rattle.std.specs.Prelude.{◌≡◌, ◌≢◌, ℕ, Bool, false, true, All, List, [], ◌∷◌, Option, Some, None, ⊤}
use Rattle.std.specs.Prelude.{Result, Ok, Err, String, string_bytes}
use Rattle.std.specs.declared.alloc.Global.{Global}
use Rattle.std.specs.Io.KnownBytes.{Appends, Keeps}
use Rattle.am_alert.specs.declared.alert.Alert.{Alert}
use Rattle.am_cast.specs.Posters.{PassView}
use Rattle.am_config.specs.declared.config.Config.{Config}
use Rattle.am_history.specs.Fronts.{FrontView}
use Rattle.am_store.specs.declared.call.Call.{Call}
use Rattle.am_provider.specs.Histories.{EntryView}
use Rattle.am_script.specs.Outputs.{AppendsBeginning}
use Rattle.am_provider.specs.Ending.{IsSettledFrom}
use Rattle.am_provider.specs.declared.answers.Counts.{Counts}
use Rattle.am_provider.specs.declared.settled.Settled.{Settled}
use Rattle.am_runner.specs.Sessions.{Setting, SessionView, LeavesAll, new_session, setting_of}
use Rattle.am_script.specs.declared.form.Form.{Form}
use Rattle.am_runner.specs.live.Reading.{IsNext, IsInputOf}
use Rattle.am_runner.specs.live.Serving.{IsServed, IsServedInPart}
use Rattle.am_runner.specs.live.Standing.{RunView, new_run}
use Rattle.am_runner.specs.declared.live.reading.InputLine.{InputLine}
use Rattle.am_command_line.specs.FirstLines.{IsFirstLine}
use Rattle.am_replay.specs.Printing.{counts_line}
use Rattle.am_command_line.specs.Refusals.{first_line_too_large, refused_config, refused_script}
use Rattle.am_replay.specs.Runs.{AreCountsOf}
use Rattle.am_command_line.specs.declared.arguments.Arguments.{Arguments}
use Rattle.am_command_line.specs.declared.arguments.Mode.{Mode}
use Rattle.am_command_line.specs.declared.arguments.Mode.TheVariants.{Follow}
use Rattle.am_command_line.specs.declared.first_line.FirstLine.{FirstLine}
use Rattle.am_command_line.specs.declared.first_line.FirstLine.TheVariants as first_line
use Rattle.am_command_line.specs.declared.status.Status.{Status}
use Rattle.am_command_line.specs.declared.status.Status.TheVariants.{Done, Refused, OutOfMemory, ReadFailed}
use Rattle.am_command_line.specs.declared.status.Status.TheVariants.{WriteFailed}

-- whether reads go on in a mode
abbrev pub is_following : Mode → Bool
is_following Follow = true
is_following mode = false

-- the line that was read, or an empty one at the input's end
abbrev pub line_or_empty : Option (List ℕ) → List ℕ
line_or_empty None = []
line_or_empty (Some bytes) = bytes

-- what was read as the first line: nothing at the input's end
abbrev pub IsFirstAs : Option (List ℕ) → Option InputLine → Type 0
IsFirstAs None None = ⊤
IsFirstAs (Some bytes) (Some line) = All (λ byte. byte ≢ 10) bytes × IsInputOf bytes line
IsFirstAs bytes line = ⊥

-- what is printed of a first line that is no configuration
abbrev pub IsRefusedAs : Form → FirstLine → List ℕ → Type 0
IsRefusedAs form first_line.TooLong text = text ≡ refused_script form first_line_too_large
IsRefusedAs form (first_line.Refused fault) text = text ≡ refused_config form fault
IsRefusedAs form (first_line.Read config) text = ⊥

-- all lines after the first were served in a session of a new caller whose reads go on or not, and then its
-- subscriptions were left: the one history has what the lines, the compactions between them and these leaves
-- added, and nothing else. These are the pass and the front of that caller, and there is no other one
pub record IsServedWhole (config : Config) (setting : Setting) (form : Form) (follows : Bool)
    (input rest out written : Option (List ℕ)) (passes : List (PassView Alert Call))
    (fronts : List (FrontView EntryView)) : Type 0 where
  pub seat : ℕ
  pub end : RunView
  pub left : SessionView
  pub served : IsServed config setting form 2 (new_run (new_session seat) follows) input rest out written
      end
  pub leaves : LeavesAll end.session left
  pub passes_are : passes ≡ left.pass ∷ []
  pub fronts_are : fronts ≡ left.front ∷ []

-- the lines were served; or something failed, and a beginning of what they answer was written
abbrev pub IsServedAs : {T E : Type 0} → Config → Setting → Form → Bool → Option (List ℕ) → Option (List ℕ)
    → Option (List ℕ) → Option (List ℕ) → List (PassView Alert Call) → List (FrontView EntryView)
    → Result T E → Type 0
IsServedAs config setting form follows input rest out written passes fronts (Ok _) =
    IsServedWhole config setting form follows input rest out written passes fronts
IsServedAs config setting form follows input rest out written passes fronts (Err _) =
    (seat : ℕ) × IsServedInPart config setting form 2 (new_run (new_session seat) follows) input out written

-- the lines were served on one provider, which then ended
pub record IsLived (config : Config) (setting : Setting) (form : Form) (follows : Bool)
    (input rest out written : Option (List ℕ)) (counts : Counts) : Type 0 where
  pub passes : List (PassView Alert Call)
  pub fronts : List (FrontView EntryView)
  pub settled : Settled
  pub served : IsServedWhole config setting form follows input rest out written passes fronts
  pub ended : IsSettledFrom passes fronts settled
  pub complete : settled.complete ≡ true
  pub counts_are : AreCountsOf settled counts

-- how a failure of the program's own work ends it
pub data IsFailure : Status → Type 0 where
  no_memory : IsFailure OutOfMemory
  not_read : IsFailure ReadFailed
  not_written : IsFailure WriteFailed

-- how the lines after the configuration end: they are served, and the last line printed has the counts.
-- If something fails, a beginning of that was printed
pub data LivesUnder (setting : Setting) (form : Form) (follows : Bool) (config : Config)
    (input old : Option (List ℕ)) : Status → Option (List ℕ) → Type 0 where
  not_begun : {new : Option (List ℕ)} → Keeps old new
      → LivesUnder setting form follows config input old OutOfMemory new
  lived : {rest mid new : Option (List ℕ)} (counts : Counts)
      → IsLived config setting form follows input rest old mid counts
      → Appends mid new (counts_line form counts) → LivesUnder setting form follows config input old Done new
  last_line_cut_short : {rest mid new : Option (List ℕ)} {status : Status} (counts : Counts)
      → IsLived config setting form follows input rest old mid counts
      → IsFailure status → AppendsBeginning mid new (counts_line form counts)
      → LivesUnder setting form follows config input old status new
  cut_short : {new : Option (List ℕ)} {status : Status} {seat : ℕ} → IsFailure status
      → IsServedInPart config setting form 2 (new_run (new_session seat) follows) input old new
      → LivesUnder setting form follows config input old status new

-- what comes of printing the counts
abbrev pub IsEnd : Form → Counts → Option (List ℕ) → Status → Option (List ℕ) → Type 0
IsEnd form counts old Done new = Appends old new (counts_line form counts)
IsEnd form counts old WriteFailed new = AppendsBeginning old new (counts_line form counts)
IsEnd form counts old OutOfMemory new = Keeps old new
IsEnd form counts old status new = ⊥

-- what is printed of a text that may be out of memory
abbrev pub IsWritten : {E : Type 0} → Result (String Global) E → Option (List ℕ) → Status → Option (List ℕ)
    → Type 0
IsWritten (Ok text) old Refused new = Appends old new (string_bytes text)
IsWritten (Ok text) old WriteFailed new = AppendsBeginning old new (string_bytes text)
IsWritten (Err error) old OutOfMemory new = Keeps old new
IsWritten given old status new = ⊥

-- how a live run ends under its arguments: its first line is refused, and nothing is run; or the lines
-- after it are served
pub data IsLive (arguments : Arguments) (input old : Option (List ℕ))
    : Status → Option (List ℕ) → Type 0 where
  not_begun : {status : Status} {new : Option (List ℕ)} → IsFailure status → Keeps old new
      → IsLive arguments input old status new
  refused : {new : Option (List ℕ)} (line rest : Option (List ℕ)) (first : FirstLine) (text : List ℕ)
      → IsNext input line rest → IsFirstLine (line_or_empty line) first
      → IsRefusedAs arguments.form first text
      → Appends old new text → IsLive arguments input old Refused new
  refusal_cut_short : {new : Option (List ℕ)} (line rest : Option (List ℕ)) (first : FirstLine)
      (text : List ℕ)
      → IsNext input line rest → IsFirstLine (line_or_empty line) first
      → IsRefusedAs arguments.form first text
      → AppendsBeginning old new text → IsLive arguments input old WriteFailed new
  ran : {status : Status} {new : Option (List ℕ)} (line rest : Option (List ℕ)) (config : Config)
      → IsNext input line rest → IsFirstLine (line_or_empty line) (first_line.Read config)
      → LivesUnder (setting_of arguments.places arguments.full config.resolve_timeout) arguments.form
      (is_following arguments.mode) config rest old status new
      → IsLive arguments input old status new
