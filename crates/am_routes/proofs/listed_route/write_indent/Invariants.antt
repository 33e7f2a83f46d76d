use Rattle.std.specs.Fmt.{HasWritten, IsPlainFormatter}
use Rattle.am_routes.specs.Printing.{indent}
use Rattle.am_routes.proofs.listed_route.write_indent.Given as goal

-- the levels so far
abbrev pub invariant-loop-level : goal.invariant-loop-level
invariant-loop-level g l =
    IsPlainFormatter l.initial.f → HasWritten g.W.Write.write_str_gives l.initial.f (indent l._level) l.f
