use Rattle.std.proofs.Common.{arith}
use Rattle.std.proofs.lemmas.Grind.{common_steps}
use Rattle.std.proofs.lemmas.Cmp.{lists_equiv}
use lib.Pointwise.{pointwise}
use Rattle.am_labels.specs.LabelLaws.{pairs_equiv}
use Rattle.am_labels.proofs.label_set.are_same.Goals as goal

pub returns-then-lie_as : goal.returns-then-lie_as
returns-then-lie_as c = grind (arith, common_steps, pointwise, lists_equiv, pairs_equiv)
