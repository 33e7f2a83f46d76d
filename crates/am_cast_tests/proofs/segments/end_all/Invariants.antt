use Rattle.am_cast_tests.proofs.segments.end_all.Given as goal
use Rattle.std.specs.Prelude.{⊤}

abbrev pub invariant-loop-batch : goal.invariant-loop-batch
invariant-loop-batch l = ⊤

abbrev pub decreases-loop-batch : goal.decreases-loop-batch
decreases-loop-batch l = goal.left-loop-batch l
