use Rattle.std.proofs.Common.{◌≡◌}
use Rattle.std.specs.Cmp.Lexicographic.{slice_cmp}
use Rattle.am_labels.specs.LabelLaws.{pair_cmp}
use Rattle.am_labels.proofs.label_set.order_of.Given as goal

-- their order is that of those that are left
abbrev pub invariant-pairs : goal.invariant-pairs
invariant-pairs l =
    (goal.iterator-pairs).can_next l.pairs × (goal.iterator-pairs).is_finite l.pairs
    × (slice_cmp pair_cmp l.fn.pairs l.fn.others ≡ slice_cmp pair_cmp l.pairs l.others)
