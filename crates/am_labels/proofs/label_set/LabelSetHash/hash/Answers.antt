use Rattle.std.proofs.Common.{ap, sym, ◌∙◌}
use Rattle.std.specs.Hash.{le_bytes}
use Rattle.am_labels.specs.LabelLaws.{pairs_hash}
use Rattle.am_labels.proofs.LabelSets.LabelMaps.{entries_of}
use Rattle.am_labels.proofs.label_set.LabelSetHash.hash.Goals as goal

pub returns : goal.returns
returns g c =
    let kept = c.hash.ensures ∙ ap pairs_hash (sym (entries_of c.self.inside.pairs c.args.self.now c.self.invariant c.self.view_is)) in
    c.hash-2.ensures ∙ ap (λ kept. g.H.Hasher.write c.args.state.now (le_bytes 8 kept)) kept
