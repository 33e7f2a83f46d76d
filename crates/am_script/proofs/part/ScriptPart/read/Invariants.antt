use Rattle.std.proofs.Common.{◌≡◌, ◌+◌, drop, Ok}
use Rattle.am_script.specs.inside.Parts.{bytes_of_lines}
use Rattle.am_script.proofs.Parts.{GoesOn}
use Rattle.am_script.proofs.part.ScriptPart.read.Given as goal

abbrev pub invariant-loop-bytes : goal.invariant-loop-bytes
invariant-loop-bytes l =
    (l.number ≡ l.first + l.bytes-index) × (l.part.end ≡ Ok tt)
    × GoesOn l.first (bytes_of_lines l.lines) l.number (bytes_of_lines (drop l.bytes-index l.lines)) l.part.lines.items
