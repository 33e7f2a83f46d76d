use Rattle.std.proofs.Common.{sym, ◌∙◌}
use Rattle.am_labels.proofs.LabelSets.LabelMaps.{entries_of}
use Rattle.am_labels.proofs.label_set.LabelSet.names_and_values.Goals as goal

pub returns : goal.returns
returns c = c.as_pairs.ensures ∙ sym (entries_of c.self.inside.pairs c.args.self.now c.self.invariant c.self.view_is)
