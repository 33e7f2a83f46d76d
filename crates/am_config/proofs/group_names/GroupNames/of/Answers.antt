use Rattle.std.proofs.Common.{arith}
use Rattle.std.proofs.lemmas.Grind.{common_steps}
use Rattle.am_config.proofs.Distinct.{distinct-added}
use Rattle.am_config.proofs.group_names.GroupNames.of.Goals as goal

pub loop-name-preserved : goal.loop-name-preserved
loop-name-preserved c = grind (arith, common_steps, distinct-added)
