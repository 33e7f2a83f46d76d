use Rattle.std.proofs.Common.{sym, ◌∙◌, ap, length}
use Rattle.std.specs.FinMap as map_of
use Rattle.am_labels.proofs.LabelSets.LabelMaps.{len_sorted}
use Rattle.am_labels.proofs.label_set.LabelSet.len.Goals as goal

pub returns : goal.returns
returns c =
    c.len.ensures ∙ ap length c.as_pairs.ensures
    ∙ (sym (len_sorted c.self.inside.pairs c.self.invariant) ∙ ap map_of.len c.self.view_is)
