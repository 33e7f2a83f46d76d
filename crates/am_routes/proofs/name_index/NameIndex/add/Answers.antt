use Rattle.std.proofs.Common.{arith}
use Rattle.std.proofs.lemmas.Grind.{text_groups}
use Rattle.am_routes.proofs.name_index.NameIndex.add.Goals as goal

pub returns-clause-added : goal.returns-clause-added
returns-clause-added c = λ wanted. grind (arith, text_groups)
