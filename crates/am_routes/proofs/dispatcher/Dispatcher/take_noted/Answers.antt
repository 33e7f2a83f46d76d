use Rattle.std.proofs.Common.{arith}
use Rattle.std.proofs.lemmas.Grind.{common_steps}
use Rattle.am_routes.proofs.Groups.{groups-take}
use Rattle.am_routes.proofs.dispatcher.Dispatcher.take_noted.Goals as goal

pub returns-clause-taken : goal.returns-clause-taken
returns-clause-taken c = grind (arith, common_steps, groups-take)
