use Rattle.std.proofs.Common.{arith}
use Rattle.std.proofs.lemmas.Grind.{common_steps}
use Rattle.std.proofs.Output.{has_written_append, has_written_of_eq}
use Rattle.std.proofs.lemmas.List.{take_all}
use Rattle.am_routes.proofs.Joins.{texts-first}
use Rattle.am_routes.proofs.matcher_texts.write_texts.Goals as goal

pub returns : goal.returns
returns g c = grind (arith, common_steps, take_all, has_written_of_eq, texts-first, has_written_append)
