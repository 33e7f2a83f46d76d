-- What some lines of a script are printed as, if it is known how many of each thread's come before them.
use Rattle.std.specs.Prelude.{◌≡◌, ◌<◌, ◌+◌, ◌^◌, ℕ, List, get_or}
use Rattle.std.specs.Global.{Vec}
use Rattle.am_answers.specs.declared.answer.Answer.{Answer}
use Rattle.am_script.specs.declared.command.Line.{Line}
use Rattle.am_script.specs.declared.form.Form.{Form}
use Rattle.am_replay.specs.Printing.{lines_text, own_lines}
use Rattle.am_replay.specs.declared.line_counts.LineCounts.{LineCounts}

-- how many of some lines are each thread's own
abbrev pub CountsOwn : List Line → LineCounts → Type 0
CountsOwn lines counted = (thread : ℕ) → thread < 8 → get_or counted.counts thread 0 ≡ own_lines thread lines

-- this many lines more can be counted
abbrev pub CanCount : ℕ → LineCounts → Type 0
CanCount more counted = (thread : ℕ) → thread < 8 → get_or counted.counts thread 0 + more < 2 ^ 64

-- a text is what these lines were answered, whatever lines are counted before them
abbrev pub PrintsLines : Form → List (Vec (Vec Answer)) → LineCounts → List Line → List ℕ → Type 0
PrintsLines form answers counted lines text =
    (before : List Line) → CountsOwn before counted → text ≡ lines_text form answers before lines
