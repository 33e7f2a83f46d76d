use Rattle.std.proofs.Common.{arith}
use Rattle.std.proofs.lemmas.Grind.{common_steps}
use Rattle.am_store.proofs.Entries.{outside, written_past}
use Rattle.am_store.proofs.store.absorb.take_one_back.Goals as goal

pub returns-in_default : goal.returns-in_default
returns-in_default c = grind (arith, common_steps, outside, written_past)
