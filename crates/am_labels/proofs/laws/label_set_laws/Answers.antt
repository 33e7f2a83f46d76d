use Rattle.am_labels.proofs.LabelSets.LabelMaps.{entries_rising}
use Rattle.am_labels.proofs.laws.label_set_laws.Goals as goal

pub returns : goal.returns
returns c = entries_rising
