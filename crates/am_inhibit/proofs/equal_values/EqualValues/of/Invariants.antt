use Rattle.std.proofs.Common.{◌≡◌, map, take}
use Rattle.am_labels.specs.LabelSets.{value_of}
use Rattle.am_inhibit.proofs.equal_values.EqualValues.of.Given as goal

abbrev pub invariant-loop-name : goal.invariant-loop-name
invariant-loop-name l = l.values.items ≡ map (value_of l.labels) (take l.name-index l.names)
