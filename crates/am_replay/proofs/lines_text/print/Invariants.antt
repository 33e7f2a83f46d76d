use Rattle.std.proofs.Common.{◌≡◌, ◌+◌, ◌++◌, ℕ, List, drop, string_bytes, take}
use Rattle.am_script.specs.declared.command.Line.{Line}
use Rattle.am_replay.specs.Printing.{lines_text}
use Rattle.am_replay.specs.inside.PartTexts.{CanCount, CountsOwn}
use Rattle.am_replay.proofs.lines_text.print.Given as goal

-- the lines so far are counted, the others can be, and what is written and what the others come to are all
abbrev pub invariant-loop-line : goal.invariant-loop-line
invariant-loop-line l =
    ((before : List Line) → CountsOwn before l.fn.before → CountsOwn (before ++ take l.line-index l.lines) l.counted)
    × ((more : ℕ) → CanCount (more + l.line-index) l.fn.before → CanCount more l.counted)
    × ((before : List Line) → CountsOwn before l.fn.before
    → string_bytes l.text ++ lines_text l.form l.answers (before ++ take l.line-index l.lines) (drop l.line-index l.lines)
    ≡ lines_text l.form l.answers before l.lines)
