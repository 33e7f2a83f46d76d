-- What a line does and prints.
use Rattle.std.specs.Prelude.{◌≡◌, ◌<◌, ◌≤◌, ℕ, Bool, true, false, not, is_none, List, [], ◌∷◌, ◌++◌, length}
use Rattle.std.specs.Prelude.{Ok, Err, codes}
use Rattle.std.specs.Fmt.{decimal}
use Rattle.json.specs.Json.{Members, member, no_members, string}
use Rattle.am_config.specs.declared.config.Config.{Config}
use Rattle.am_script.specs.Commands.{IsCommandOf}
use Rattle.am_script.specs.ScriptTexts.{fault_text}
use Rattle.am_script.specs.declared.command.Command.{Command}
use Rattle.am_script.specs.declared.command.Command.TheVariants.{Groups, Subscribe}
use Rattle.am_script.specs.declared.command.GivenMoment.TheVariants.{Unread}
use Rattle.am_script.specs.declared.command.LineFault.TheVariants as line_fault
use Rattle.am_script.specs.declared.limits.TheConstants.{LONGEST_LINE}
use Rattle.am_script.specs.declared.script.Fault.{Fault}
use Rattle.am_script.specs.declared.script.Fault.TheVariants.{BadLine, BadName, TooLarge}
use Rattle.am_script.specs.JsonLines.{about_line, object_line, worded}
use Rattle.am_answers.specs.PrintingJson.{count_members}
use Rattle.am_script.specs.declared.form.Form.{Form}
use Rattle.am_script.specs.declared.form.Form.TheVariants.{Text, Json}
use Rattle.am_runner.specs.Reading.{OpenView}
use Rattle.am_runner.specs.Sessions.{Setting, SessionView, Does, has_notifier, index_named}
use Rattle.am_runner.specs.Unanswered.{IsUnanswered}
use Rattle.am_answers.specs.declared.answer.Answer.{Answer}
use Rattle.am_answers.specs.Known.{known_after, places_after}
use Rattle.am_answers.specs.Showing.{AnswersArePrinted, kept_printed}
use Rattle.am_runner.specs.live.Standing.{ReadOn, RunView, stands_after}
use Rattle.am_runner.specs.declared.live.standing.StandingRead.{StandingRead}

-- a line is refused, for what has this text
abbrev pub refusal_members : List ℕ → Members
refusal_members why = worded (codes "refused") (member (codes "fault") (string why) no_members)

-- a refused line: its number and why, as an object followed by how many answers the line has
abbrev pub refused_for : Form → ℕ → List ℕ → List ℕ
refused_for Text number why = decimal number ++ (codes " " ++ (why ++ codes "\n"))
refused_for Json number why = object_line (about_line number (refusal_members why))
    ++ object_line (about_line number (count_members 1))

-- a line that is refused for its fault
abbrev pub refused_text : Form → ℕ → Fault → List ℕ
refused_text form number fault = refused_for form number (fault_text fault)

-- a line that is refused because memory ran out for it
abbrev pub no_memory_text : Form → ℕ → List ℕ
no_memory_text form number = refused_for form number (codes "E0 NoMemory")

-- whether a command subscribes no name that an open subscription has
abbrev pub has_free_name : Command → List OpenView → Bool
has_free_name (Subscribe name kind) opened = is_none (index_named name opened)
has_free_name _ opened = true

-- whether the `at` of `groups` is a moment where it is a member: if the subscription has an inhibitor too
abbrev pub has_moment_if_needed : Command → List OpenView → Bool
has_moment_if_needed (Groups name Unread) opened = not (has_notifier name opened)
has_moment_if_needed _ opened = true

-- what a command of the line of this number prints, and what it does to a run: nothing, if it subscribes a
-- name that is open or its moment isn't one; else what it answers, where the alerts went that it put, and
-- what then comes for the reads that go on; or that there was no memory for its answer, if it only asks or
-- wasn't done
pub data Obeys (config : Config) (setting : Setting) (form : Form) (number : ℕ) (command : Command)
    (old : RunView) : List ℕ → RunView → Type 0 where
  bad_name : has_free_name command old.session.opened ≡ false
      → Obeys config setting form number command old (refused_text form number BadName) old
  bad_moment : has_moment_if_needed command old.session.opened ≡ false
      → Obeys config setting form number command old (refused_text form number BadLine) old
  ran : {given : List Answer} {mid new : SessionView} {printed came : List ℕ} {reads : List StandingRead}
      → has_free_name command old.session.opened ≡ true
      → has_moment_if_needed command old.session.opened ≡ true
      → Does config setting old.session command given mid
      → AnswersArePrinted number old.known given old.follows form printed
      → ReadOn config setting form number (known_after old.follows command given old.known) mid
      (stands_after old.follows command given old.reads) came reads new
      → Obeys config setting form number command old (printed
      ++ kept_printed form number (places_after old.follows command given old.known) ++ came)
      (record {
        session = new;
        follows = old.follows;
        reads = reads;
        known = known_after old.follows command given old.known;
      })
  unanswered : {new : SessionView} → IsUnanswered config setting old.session command new
      → Obeys config setting form number command old (no_memory_text form number)
      (record old { session = new })

-- What the line of this number prints, and what it does to a run: nothing, if it is empty; a refusal, if it
-- is too long, isn't a command, or memory ran out in reading it; else what its command does.
pub data Answers (config : Config) (setting : Setting) (form : Form) (number : ℕ) (bytes : List ℕ)
    (old : RunView) : List ℕ → RunView → Type 0 where
  nothing_asked : bytes ≡ [] → Answers config setting form number bytes old [] old
  too_large : LONGEST_LINE < length bytes
      → Answers config setting form number bytes old (refused_text form number TooLarge) old
  no_memory : 0 < length bytes
      → Answers config setting form number bytes old (no_memory_text form number) old
  bad_line : 0 < length bytes → length bytes ≤ LONGEST_LINE
      → IsCommandOf bytes (Err line_fault.BadLine)
      → Answers config setting form number bytes old (refused_text form number BadLine) old
  obeyed : {command : Command} {printed : List ℕ} {new : RunView}
      → 0 < length bytes → length bytes ≤ LONGEST_LINE → IsCommandOf bytes (Ok command)
      → Obeys config setting form number command old printed new
      → Answers config setting form number bytes old printed new
