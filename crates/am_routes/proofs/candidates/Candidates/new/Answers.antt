use Rattle.std.proofs.Common.{arith}
use Rattle.std.proofs.lemmas.Grind.{common_steps}
use Rattle.am_routes.proofs.ChildIndexes.{filed-none, filed-first}
use Rattle.am_routes.proofs.candidates.Candidates.new.Goals as goal
use Rattle.am_routes.proofs.candidates.Candidates.new.Goals.{in-Some, in-None}

pub invariant_of-result : goal.invariant_of-result
invariant_of-result c = grind (arith, common_steps, in-Some, filed-first, in-None, filed-none)
