use Rattle.std.proofs.Common.{◌≡◌}
use Rattle.std.specs.FinMap.Entries.{find}
use Rattle.am_labels.specs.Texts.{text_cmp}
use Rattle.am_labels.proofs.label_set.find_among_few.Given as goal

-- the name has the value that it has among those that are left
abbrev pub invariant-loop-other : goal.invariant-loop-other
invariant-loop-other l =
    (goal.iterator-loop-other).can_next l.other-iterator ×
    (goal.iterator-loop-other).is_finite l.other-iterator ×
    (find text_cmp l.name l.fn.pairs ≡ find text_cmp l.name l.other-iterator)
