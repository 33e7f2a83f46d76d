use Rattle.std.proofs.Common.{◌≡◌, ◌++◌, List, ℕ}
use Rattle.std.specs.FinMap.{entries}
use Rattle.am_labels.specs.LabelSets.{last_holds}
use Rattle.am_labels.proofs.label_set.last_of_each.Given as goal

-- the map of those before the ones that are left
abbrev pub invariant-loop-name : goal.invariant-loop-name
invariant-loop-name l =
    (goal.iterator-loop-name).can_next l.name-iterator ×
    (goal.iterator-loop-name).is_finite l.name-iterator ×
    ((done : List (List ℕ × List ℕ)) × (l.fn.pairs ≡ done ++ l.name-iterator) × (l.sorted.entries ≡ entries (last_holds done)))
