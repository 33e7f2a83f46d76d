use Rattle.std.specs.Io.KnownBytes.{Keeps}
use Rattle.am_script.proofs.input.read_some.Given as goal

-- nothing was read so far
abbrev pub invariant-loop-try : goal.invariant-loop-try
invariant-loop-try g l = Keeps (g.R.Read.remaining l.initial.input) (g.R.Read.remaining l.input)
