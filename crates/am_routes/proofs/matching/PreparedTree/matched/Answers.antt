use Rattle.std.proofs.Common.{arith}
use Rattle.std.proofs.lemmas.Grind.{common_steps}
use Rattle.std.proofs.lemmas.Result.{IfOk-weaker}
use Rattle.am_routes.proofs.RouteAnswers.{answer-meets}
use Rattle.am_routes.proofs.matching.PreparedTree.matched.Goals as goal

pub returns-clause-matched : goal.returns-clause-matched
returns-clause-matched c = grind (arith, common_steps, IfOk-weaker, answer-meets)
