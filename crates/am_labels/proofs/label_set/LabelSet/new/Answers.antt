use Rattle.am_labels.proofs.LabelSets.LabelMaps.{from_none}
use Rattle.am_labels.proofs.label_set.LabelSet.new.Goals as goal

pub returns : goal.returns
returns c = from_none _ c.new.ensures
