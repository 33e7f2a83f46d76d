use Rattle.std.specs.Io.KnownBytes.{Consumes}
use Rattle.am_script.proofs.input.read_input.Given as goal

-- what was read so far was taken in
abbrev pub invariant-loop-turn : goal.invariant-loop-turn
invariant-loop-turn g l = Consumes (g.R.Read.remaining l.initial.input) (g.R.Read.remaining l.input) l.counter
