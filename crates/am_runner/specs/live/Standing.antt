-- Reads that go on: in a run that follows, what comes for a subscription after its read was answered is shown
-- without another line.
use Rattle.std.specs.Prelude.{◌-◌, ℕ, Bool, true, false, List, [], ◌∷◌, ◌++◌, filter, length}
use Rattle.std.specs.Prelude.{position, remove, slice_get, Option, Some, None, if◌then◌else◌}
use Rattle.std.specs.Str.{bytes_eq}
use Rattle.am_config.specs.declared.config.Config.{Config}
use Rattle.am_script.specs.declared.command.Command.{Command}
use Rattle.am_script.specs.declared.command.Command.TheVariants.{Leave, Read}
use Rattle.am_answers.specs.Answers.{is_item}
use Rattle.am_runner.specs.Sessions.{Setting, SessionView, Does}
use Rattle.am_answers.specs.declared.answer.Answer.{Answer}
use Rattle.am_script.specs.declared.form.Form.{Form}
use Rattle.am_answers.specs.Known.{Known}
use Rattle.am_answers.specs.Showing.{CameIsPrinted, is_pending}
use Rattle.am_runner.specs.declared.live.standing.StandingRead.{StandingRead}

-- a run's session, whether the run follows, its reads that go on, and the alerts that it knows
pub record RunView : Type 0 where
  pub session : SessionView
  pub follows : Bool
  pub reads : List StandingRead
  pub known : Known

-- a run that begins in a session
abbrev pub new_run : SessionView → Bool → RunView
new_run session follows = record { session = session; follows = follows; reads = []; known = [] }

-- whether there is an answer, which says so
abbrev pub is_some_pending : Option Answer → Bool
is_some_pending None = false
is_some_pending (Some one) = is_pending one

-- whether the last answer of a read says so
abbrev pub ends_pending : List Answer → Bool
ends_pending given = is_some_pending (slice_get given (length given - 1))

-- what goes on of a read of at most `max` alerts: those that are left of it, if there was nothing more
-- for now
abbrev pub left_to_read : List ℕ → ℕ → List Answer → List StandingRead
left_to_read name max given =
    if ends_pending given
    then (record { name = name; left = max - length (filter is_item given) }) ∷ [] else []

-- the index of the read of the subscription of a name
abbrev pub index_of_read : List ℕ → List StandingRead → Option ℕ
index_of_read name reads = position (λ one. bytes_eq one.name name) reads

-- the reads without that at an index, if there is one
abbrev pub reads_without : Option ℕ → List StandingRead → List StandingRead
reads_without None reads = reads
reads_without (Some index) reads = remove reads index

-- the reads of other subscriptions
abbrev pub others : List ℕ → List StandingRead → List StandingRead
others name reads = reads_without (index_of_read name reads) reads

-- what goes on once a command was answered, in a run that follows or not: a read begins anew, and a leave
-- ends that of its subscription
abbrev pub stands_after : Bool → Command → List Answer → List StandingRead → List StandingRead
stands_after true (Read name max) given reads = others name reads ++ left_to_read name max given
stands_after true (Leave name) given reads = others name reads
stands_after follows command given reads = reads

-- what comes for the reads that go on, after the line of this number: each is read on, as by a line, and
-- goes on with what is left of it
pub data ReadOn (config : Config) (setting : Setting) (form : Form) (number : ℕ) (known : Known)
    (old : SessionView) : List StandingRead → List ℕ → List StandingRead → SessionView → Type 0 where
  none_stands : ReadOn config setting form number known old [] [] [] old
  one_more : {reads left : List StandingRead} {text more : List ℕ} {mid new : SessionView}
      {given : List Answer} (one : StandingRead)
      → ReadOn config setting form number known old reads text left mid
      → Does config setting mid (Read one.name one.left) given new
      → CameIsPrinted number one.name known given form more
      → ReadOn config setting form number known old (reads ++ one ∷ []) (text ++ more)
      (left ++ left_to_read one.name one.left given) new
