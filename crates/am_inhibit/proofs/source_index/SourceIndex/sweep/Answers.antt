use Rattle.std.proofs.Common.{arith}
use Rattle.std.proofs.lemmas.Grind.{common_steps}
use Rattle.am_inhibit.proofs.Places.{entries-retained}
use Rattle.am_inhibit.proofs.source_index.SourceIndex.sweep.Goals as goal

pub returns : goal.returns
returns c = grind (arith, common_steps, entries-retained)
