use Rattle.std.proofs.Common.{rules}
use Rattle.am_labels.specs.LabelLaws.{pairs_hash}
use Rattle.am_labels.proofs.shared_pairs.hash_of.Goals as goal

pub loop-name-init : goal.loop-name-init
unfolding pairs_hash
loop-name-init c = (tt, tt, search rules)
