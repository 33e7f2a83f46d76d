use Rattle.std.proofs.Common.{◌≡◌, ◌++◌, ◌≤◌, length}
use Rattle.am_script.specs.Script.{lines_of}
use Rattle.am_script.specs.inside.Parts.{bytes_of_lines}
use Rattle.am_script.proofs.script.first_lines.Given as goal

abbrev pub invariant-loop-lines : goal.invariant-loop-lines
invariant-loop-lines l = (lines_of l.text ≡ bytes_of_lines l.lines.items ++ lines_of l.rest) × (length l.lines.items ≤ 65537)

abbrev pub decreases-loop-lines : goal.decreases-loop-lines
decreases-loop-lines l = length l.rest
