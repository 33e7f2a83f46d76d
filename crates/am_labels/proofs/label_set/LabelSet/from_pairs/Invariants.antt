use Rattle.std.proofs.Common.{◌≡◌, map}
use Rattle.am_labels.specs.LabelSets.{bytes_of}
use Rattle.am_labels.proofs.label_set.LabelSet.from_pairs.Given as goal

abbrev pub invariant-loop-name : goal.invariant-loop-name
invariant-loop-name l = l.texts.items ≡ map bytes_of l.yielded
