use Rattle.std.proofs.Common.{arith}
use Rattle.std.proofs.lemmas.Grind.{common_steps}
use Rattle.std.proofs.Output.{has_written_append, has_written_of_eq}
use Rattle.std.proofs.lemmas.List.{take_all}
use Rattle.am_routes.proofs.Joins.{names-first}
use Rattle.am_routes.proofs.listed_route.write_names.Goals as goal

pub returns : goal.returns
returns g c = grind (arith, common_steps, take_all, has_written_of_eq, names-first, has_written_append)
