use Rattle.std.proofs.Common.{arith}
use Rattle.std.proofs.lemmas.Grind.{common_steps}
use Rattle.am_routes.proofs.matching.PreparedTree.looked.Goals as goal

pub returns-clause-looked : goal.returns-clause-looked
returns-clause-looked c = grind (arith, common_steps)
