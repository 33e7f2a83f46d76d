-- What some lines of a script say, each by itself: its command or its fault, whatever is subscribed.
use Rattle.std.specs.Prelude.{◌≡◌, ◌⊎◌, ◌<◌, ◌≤◌, ◌+◌, ℕ, List, [], ◌∷◌, ◌++◌, length, map}
use Rattle.std.specs.Prelude.{Option, Some, None, Result, Ok, Err, ⊤}
use denote.Ref.{Bor}
use Rattle.am_script.specs.Commands.{IsLineOf}
use Rattle.am_script.specs.Script.{IsSkipped, IsTooLarge, IsWithinLimits, lines_of}
use Rattle.am_script.specs.declared.command.Line.{Line}
use Rattle.am_script.specs.declared.command.LineFault.TheVariants as line_fault
use Rattle.am_script.specs.declared.limits.TheConstants.{MOST_LINES}
use Rattle.am_script.specs.declared.part.ScriptPart.{ScriptPart}
use Rattle.am_script.specs.declared.script.Fault.{Fault}
use Rattle.am_script.specs.declared.script.Fault.TheVariants.{BadLine, BadName, TooLarge}
use Rattle.am_script.specs.declared.script.ScriptFault.{ScriptFault}
use Rattle.am_script.specs.declared.script.ScriptFault.TheVariants.{Refused, NoMemory}

-- the bytes of lines
abbrev pub bytes_of_lines : List (Bor (List ℕ)) → List (List ℕ)
bytes_of_lines lines = map (λ line. line.now) lines

-- the first lines of a text: all, or one more than a script may have
pub record AreFirstLines (text : List ℕ) (lines : List (List ℕ)) : Type 0 where
  pub rest : List (List ℕ)
  pub first : lines_of text ≡ lines ++ rest
  pub at_most : length lines ≤ MOST_LINES + 1
  pub all_or_too_many : (rest ≡ []) ⊎ (MOST_LINES < length lines)

-- within the limits, not the configuration's line, and not empty
abbrev pub HasCommand : ℕ → List ℕ → Type 0
HasCommand number bytes = IsWithinLimits number bytes × (1 < number) × (0 < length bytes)

-- a line's own fault
abbrev pub HasFault : ℕ → List ℕ → Fault → Type 0
HasFault number bytes TooLarge = IsTooLarge number bytes
HasFault number bytes BadLine = HasCommand number bytes × IsLineOf number bytes (Err line_fault.BadLine)
HasFault number bytes BadName = ⊥

-- what reading one line answers: its command if it has one, or its fault
abbrev pub ReadsLine : ℕ → List ℕ → Result (Option Line) ScriptFault → Type 0
ReadsLine number bytes (Ok None) = IsWithinLimits number bytes × IsSkipped number bytes
ReadsLine number bytes (Ok (Some line)) = HasCommand number bytes × IsLineOf number bytes (Ok line)
ReadsLine number bytes (Err (Refused refusal)) =
    (refusal.number ≡ number) × HasFault number bytes refusal.fault
ReadsLine number bytes (Err NoMemory) = ⊤

-- what reading lines answers, from a number on: the commands up to the first fault, and that fault
pub data ReadsLines : ℕ → List (List ℕ) → List Line → Result (Unit {0}) ScriptFault → Type 0 where
  ended : {number : ℕ} → ReadsLines number [] [] (Ok tt)
  out_of_memory : {number : ℕ} {lines : List (List ℕ)} → ReadsLines number lines [] (Err NoMemory)
  faulty : {number : ℕ} {bytes : List ℕ} {rest : List (List ℕ)} {fault : ScriptFault}
      → ReadsLine number bytes (Err fault) → ReadsLines number (bytes ∷ rest) [] (Err fault)
  skipped : {number : ℕ} {bytes : List ℕ} {rest : List (List ℕ)} {lines : List Line}
      {end : Result (Unit {0}) ScriptFault}
      → ReadsLine number bytes (Ok None) → ReadsLines (number + 1) rest lines end
      → ReadsLines number (bytes ∷ rest) lines end
  command : {number : ℕ} {bytes : List ℕ} {rest : List (List ℕ)} {line : Line} {lines : List Line}
      {end : Result (Unit {0}) ScriptFault}
      → ReadsLine number bytes (Ok (Some line)) → ReadsLines (number + 1) rest lines end
      → ReadsLines number (bytes ∷ rest) (line ∷ lines) end

-- a part is what reading these lines answers
abbrev pub IsPart : ℕ → List (List ℕ) → ScriptPart → Type 0
IsPart first bytes part = ReadsLines first bytes part.lines.items part.end

-- one line was read: its command is the last, if it has one, or nothing was added
abbrev pub AddsLine : ℕ → List ℕ → List Line → List Line → Result (Unit {0}) ScriptFault → Type 0
AddsLine number bytes old new (Ok _) =
    ((new ≡ old) × ReadsLine number bytes (Ok None))
    ⊎ ((line : Line) × (new ≡ old ++ line ∷ []) × ReadsLine number bytes (Ok (Some line)))
AddsLine number bytes old new (Err fault) = (new ≡ old) × ReadsLine number bytes (Err fault)
