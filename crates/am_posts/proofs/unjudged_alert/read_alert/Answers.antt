use Rattle.std.proofs.Common.{arith}
use Rattle.std.proofs.lemmas.Grind.{common_steps}
use Rattle.am_posts.proofs.unjudged_alert.read_alert.Goals as goal

pub into_alert-requires : goal.into_alert-requires
into_alert-requires c = grind (arith, common_steps)
