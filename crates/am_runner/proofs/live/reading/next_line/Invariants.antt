use Rattle.am_runner.proofs.live.Lines.{LineSoFar}
use Rattle.am_runner.proofs.live.reading.next_line.Given as goal

-- the line's bytes so far were read, and none is a line feed
abbrev pub invariant-loop-turn : goal.invariant-loop-turn
invariant-loop-turn g l = LineSoFar (g.I.Read.remaining l.initial.input) l.line (g.I.Read.remaining l.input)
