-- Checking a whole script before anything runs: its lines, its limits, and the names of its
-- subscriptions.
use Rattle.std.specs.Prelude.{◌≡◌, ◌⊎◌, ◌<◌, ◌≤◌, ◌+◌, ℕ, ◌&&◌, ◌==◌, Bool, true, false, not, if◌then◌else◌}
use Rattle.std.specs.Prelude.{List, [], ◌∷◌, ◌++◌, length, fold, Option, Some, None, is_some, is_none, Result}
use Rattle.std.specs.Prelude.{Ok, Err, ⊤}
use Rattle.am_script.specs.Kinds.{is_some_dispatch, is_some_inhibit, is_some_notify}
use Rattle.am_script.specs.declared.kind.Kind.{Kind}
use Rattle.am_script.specs.declared.limits.TheConstants.{LONGEST_LINE, MOST_LINES}
use Rattle.std.specs.List.{onto_first}
use Rattle.std.specs.Str.{bytes_eq}
use Rattle.am_script.specs.Commands.{IsLineOf}
use Rattle.am_script.specs.declared.command.Command.{Command}
use Rattle.am_script.specs.declared.command.Command.TheVariants.{Post, Put, Subscribe, Read, Leave, Collect}
use Rattle.am_script.specs.declared.command.Command.TheVariants.{Take, Close, Trim, Compact, Groups, Sweep}
use Rattle.am_script.specs.declared.command.Command.TheVariants.{Forget, Mutes, Stored, StoredPage, Get}
use Rattle.am_script.specs.declared.command.Command.TheVariants.{Routes, Route}
use Rattle.am_script.specs.declared.command.GivenMoment.TheVariants.{Unread}
use Rattle.am_script.specs.declared.command.Line.{Line}
use Rattle.am_script.specs.declared.command.LineFault.TheVariants as line_fault
use Rattle.am_script.specs.declared.script.Fault.{Fault}
use Rattle.am_script.specs.declared.script.Fault.TheVariants.{BadLine, BadName, TooLarge}
use Rattle.am_script.specs.declared.script.Refusal.{Refusal}
use Rattle.am_script.specs.declared.script.ScriptFault.{ScriptFault}
use Rattle.am_script.specs.declared.script.ScriptFault.TheVariants.{Refused, NoMemory}

-- whether a byte is a line feed
abbrev pub is_line_feed : ℕ → Bool
is_line_feed byte = byte == 10

-- the lines of a text, without their line feeds; the last one has a line feed or not
abbrev pub lines_of : List ℕ → List (List ℕ)
lines_of [] = []
lines_of (byte ∷ bytes) =
    if is_line_feed byte then [] ∷ lines_of bytes else onto_first byte (lines_of bytes)

-- as what kind a name is subscribed in a thread after a command of this thread (true) or another
-- one (false)
abbrev pub subscribed_after : Bool → List ℕ → Option Kind → Command → Option Kind
subscribed_after here name before (Subscribe other kind) =
    if here && bytes_eq other name then Some kind else before
subscribed_after here name before (Leave other) =
    if here && bytes_eq other name then None else before
subscribed_after here name before (Post at body) = before
subscribed_after here name before (Put at alerts) = before
subscribed_after here name before (Read other max) = before
subscribed_after here name before (Collect at) = before
subscribed_after here name before (Take at) = before
subscribed_after here name before Close = before
subscribed_after here name before Trim = before
subscribed_after here name before Compact = before
subscribed_after here name before (Groups other at) = before
subscribed_after here name before (Sweep other at) = before
subscribed_after here name before (Forget other at) = before
subscribed_after here name before (Mutes other at labels) = before
subscribed_after here name before Stored = before
subscribed_after here name before (StoredPage from max) = before
subscribed_after here name before (Get labels) = before
subscribed_after here name before Routes = before
subscribed_after here name before (Route labels) = before

-- as what kind a name is subscribed in a thread by some lines, and not left again
abbrev pub subscribed_as : List Line → ℕ → List ℕ → Option Kind
subscribed_as lines thread name = fold
    (λ before line. subscribed_after (line.thread == thread) name before line.command) None lines

-- whether a command's name is subscribed as the command needs it, or isn't where the command
-- subscribes it
abbrev pub is_named_well : (List ℕ → Option Kind) → Command → Bool
is_named_well subscribed (Subscribe name kind) = is_none (subscribed name)
is_named_well subscribed (Leave name) = is_some (subscribed name)
is_named_well subscribed (Read name max) = is_some (subscribed name)
is_named_well subscribed (Groups name at) = is_some_dispatch (subscribed name)
is_named_well subscribed (Sweep name at) = is_some_dispatch (subscribed name)
is_named_well subscribed (Forget name at) = is_some_inhibit (subscribed name)
is_named_well subscribed (Mutes name at labels) = is_some_inhibit (subscribed name)
is_named_well subscribed (Post at body) = true
is_named_well subscribed (Put at alerts) = true
is_named_well subscribed (Collect at) = true
is_named_well subscribed (Take at) = true
is_named_well subscribed Close = true
is_named_well subscribed Trim = true
is_named_well subscribed Compact = true
is_named_well subscribed Stored = true
is_named_well subscribed (StoredPage from max) = true
is_named_well subscribed (Get labels) = true
is_named_well subscribed Routes = true
is_named_well subscribed (Route labels) = true

-- whether a line's name is the right one after the lines before it
abbrev pub is_well_named : List Line → Line → Bool
is_well_named earlier line = is_named_well (subscribed_as earlier line.thread) line.command

-- whether the `at` of `groups` is a moment where it is a member: if the subscription has both consumers
abbrev pub is_moment_read : (List ℕ → Option Kind) → Command → Bool
is_moment_read subscribed (Groups name Unread) = not (is_some_notify (subscribed name))
is_moment_read subscribed other = true

-- whether it is for a line after the lines before it
abbrev pub has_its_moment : List Line → Line → Bool
has_its_moment earlier line = is_moment_read (subscribed_as earlier line.thread) line.command

-- what is wrong with a line that reads as a command, after the lines before it
abbrev pub Misfits : List Line → Line → Fault → Type 0
Misfits earlier line BadLine = has_its_moment earlier line ≡ false
Misfits earlier line BadName = is_well_named earlier line ≡ false
Misfits earlier line TooLarge = ⊥

-- the first of some lines, or an empty one
abbrev pub first_of : List (List ℕ) → List ℕ
first_of [] = []
first_of (line ∷ lines) = line

-- the first line, which is the configuration's; it is empty if there is none
abbrev pub config_line : List ℕ → List ℕ
config_line text = first_of (lines_of text)

-- above the limit of lines, or of a line's bytes
abbrev pub IsTooLarge : ℕ → List ℕ → Type 0
IsTooLarge number bytes = (MOST_LINES < number) ⊎ (LONGEST_LINE < length bytes)

-- within both limits
abbrev pub IsWithinLimits : ℕ → List ℕ → Type 0
IsWithinLimits number bytes = (number ≤ MOST_LINES) × (length bytes ≤ LONGEST_LINE)

-- the configuration's line and empty ones have no command
abbrev pub IsSkipped : ℕ → List ℕ → Type 0
IsSkipped number bytes = (number ≡ 1) ⊎ (bytes ≡ [])

-- What checking lines answers, from a number on and after some commands: all commands, or the
-- first faulty line.
pub data Checks : ℕ → List Line → List (List ℕ) → Result (List Line) Refusal → Type 0 where
  ended : {number : ℕ} {earlier : List Line} → Checks number earlier [] (Ok earlier)
  too_large : {number : ℕ} {earlier : List Line} {bytes : List ℕ} {rest : List (List ℕ)}
      → IsTooLarge number bytes
      → Checks number earlier (bytes ∷ rest) (Err (record { number = number; fault = TooLarge }))
  skipped : {number : ℕ} {earlier : List Line} {bytes : List ℕ} {rest : List (List ℕ)}
      {result : Result (List Line) Refusal}
      → IsWithinLimits number bytes → IsSkipped number bytes
      → Checks (number + 1) earlier rest result
      → Checks number earlier (bytes ∷ rest) result
  bad_line : {number : ℕ} {earlier : List Line} {bytes : List ℕ} {rest : List (List ℕ)}
      → IsWithinLimits number bytes → 1 < number → 0 < length bytes
      → IsLineOf number bytes (Err line_fault.BadLine)
      → Checks number earlier (bytes ∷ rest) (Err (record { number = number; fault = BadLine }))
  misfits : {number : ℕ} {earlier : List Line} {bytes : List ℕ} {rest : List (List ℕ)} {line : Line}
      {fault : Fault}
      → IsWithinLimits number bytes → 1 < number → 0 < length bytes
      → IsLineOf number bytes (Ok line) → Misfits earlier line fault
      → Checks number earlier (bytes ∷ rest) (Err (record { number = number; fault = fault }))
  command : {number : ℕ} {earlier : List Line} {bytes : List ℕ} {rest : List (List ℕ)} {line : Line}
      {result : Result (List Line) Refusal}
      → IsWithinLimits number bytes → 1 < number → 0 < length bytes
      → IsLineOf number bytes (Ok line)
      → has_its_moment earlier line ≡ true → is_well_named earlier line ≡ true
      → Checks (number + 1) (earlier ++ line ∷ []) rest result
      → Checks number earlier (bytes ∷ rest) result

-- what checking a text answers, unless it is out of memory
abbrev pub IsRefused : List ℕ → ScriptFault → Type 0
IsRefused text (Refused refusal) = Checks 1 [] (lines_of text) (Err refusal)
IsRefused text NoMemory = ⊤
