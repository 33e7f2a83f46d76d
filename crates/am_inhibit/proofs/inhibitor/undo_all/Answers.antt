use Rattle.std.proofs.Common.{arith, length-append, length-set}
use Rattle.std.proofs.lemmas.Grind.{common_steps}
use Rattle.am_inhibit.proofs.Indexes.{back_one}
use Rattle.am_inhibit.proofs.inhibitor.undo_all.Goals as goal

pub loop-change-preserved : goal.loop-change-preserved
loop-change-preserved c = grind (arith, common_steps, length-append, back_one, length-set)
