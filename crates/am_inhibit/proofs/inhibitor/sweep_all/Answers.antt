use Rattle.std.proofs.Common.{set, sym, ap, ◌∙◌}
use Rattle.std.proofs.lemmas.List.Edits.{map_over_more}
use Rattle.am_inhibit.specs.inside.Places.{index_swept}
use Rattle.am_inhibit.proofs.inhibitor.sweep_all.Goals as goal

pub loop-index-preserved : goal.loop-index-preserved
loop-index-preserved c =
    let f = index_swept c.args.places.now in
    let is = c.index-indexes-index.is in
    ap (set c.loop-index.indexes c.loop-index.index) (c.sweep.ensures ∙ ap f (sym is))
    ∙ map_over_more f c.args.indexes.now c.loop-index.indexes c.loop-index.index c.index-indexes-index.result c.loop-index-test.true c.loop-index.invariant is
