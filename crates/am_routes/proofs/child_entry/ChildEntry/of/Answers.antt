use Rattle.std.proofs.Common.{arith}
use Rattle.std.proofs.lemmas.Grind.{common_steps}
use Rattle.am_routes.proofs.ChildIndexes.{none-of_routes}
use Rattle.am_routes.proofs.child_entry.ChildEntry.of.Goals as goal

pub returns : goal.returns
returns c = grind (arith, common_steps, none-of_routes)
