use Rattle.std.proofs.Common.{arith}
use Rattle.std.proofs.lemmas.Grind.{common_steps}
use Rattle.am_store.proofs.Kept.{or_false}
use Rattle.am_store.proofs.journal.Journal.count_dropped.Goals as goal

pub returns-in-Subscribed : goal.returns-in-Subscribed
returns-in-Subscribed c = grind (arith, common_steps, or_false)

pub returns-in-Left : goal.returns-in-Left
returns-in-Left c = grind (arith, common_steps, or_false)
