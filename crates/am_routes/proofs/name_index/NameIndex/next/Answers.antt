use Rattle.std.proofs.Common.{arith}
use Rattle.std.proofs.lemmas.Grind.{common_steps}
use Rattle.am_routes.proofs.ChildIndexes.{kept-first}
use Rattle.am_routes.proofs.name_index.NameIndex.next.Goals as goal

pub returns : goal.returns
returns c = grind (arith, common_steps, kept-first)
