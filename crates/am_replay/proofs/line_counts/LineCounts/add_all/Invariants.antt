use Rattle.std.proofs.Common.{◌+◌, ◌++◌, ℕ, List, take}
use Rattle.am_script.specs.declared.command.Line.{Line}
use Rattle.am_replay.specs.inside.PartTexts.{CountsOwn, CanCount}
use Rattle.am_replay.proofs.line_counts.LineCounts.add_all.Given as goal

abbrev pub invariant-loop-line : goal.invariant-loop-line
invariant-loop-line l =
    ((before : List Line) → CountsOwn before l.fn.self → CountsOwn (before ++ take l.line-index l.lines) l.self)
    × ((more : ℕ) → CanCount (more + l.line-index) l.fn.self → CanCount more l.self)
