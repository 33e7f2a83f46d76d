use Rattle.std.proofs.Common.{◌≡◌, take}
use Rattle.am_labels.proofs.label_set.packed.Given as goal

-- the pairs so far
abbrev pub invariant-loop-name-2 : goal.invariant-loop-name-2
invariant-loop-name-2 l = l.packed ≡ take l.name-index l.pairs
