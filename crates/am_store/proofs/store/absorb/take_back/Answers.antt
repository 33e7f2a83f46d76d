use Rattle.std.proofs.Common.{arith}
use Rattle.std.proofs.lemmas.Grind.{common_steps}
use Rattle.am_store.proofs.Entries.{all_back_last}
use Rattle.am_store.proofs.store.absorb.take_back.Goals as goal

pub loop-change-preserved : goal.loop-change-preserved
loop-change-preserved c = grind (arith, common_steps, all_back_last)
