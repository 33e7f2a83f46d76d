use Rattle.std.proofs.Common.{◌≡◌}
use lib.Pointwise.{pointwise}
use Rattle.am_labels.specs.LabelSets.{same_pair}
use Rattle.am_labels.proofs.label_set.are_same.Given as goal

-- they are the same if those that are left are
abbrev pub invariant-pairs : goal.invariant-pairs
invariant-pairs l =
    (goal.iterator-pairs).can_next l.pairs × (goal.iterator-pairs).is_finite l.pairs
    × (pointwise same_pair l.fn.pairs l.fn.others ≡ pointwise same_pair l.pairs l.others)
