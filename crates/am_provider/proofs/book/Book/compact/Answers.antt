use Rattle.std.proofs.Common.{refl, sym, ap, ◌∙◌, arith}
use Rattle.am_store.specs.AlertMaps.{stored_in}
use Rattle.am_store.specs.Journal.{JournalView}
use Rattle.am_store.proofs.Trimming.{as_many_open}
use Rattle.am_provider.proofs.Trimming.{kept_compacted, kept_room}
use Rattle.am_provider.proofs.book.Book.compact.Goals as goal

pub let_go-requires : goal.let_go-requires
let_go-requires g c = omega (arith, c.self.invariant.3.gone, c.compact-count.ensures.count, c.gone.ensures)

pub invariant_of-self-2 : goal.invariant_of-self-2
invariant_of-self-2 g c =
    let compact = c.compact-count.ensures in
    let ends = c.let_go.ensures in
    let lanes = c.let_openings_go.ensures in
    let kept = kept_compacted _ _ _ _ c.self.invariant.0 compact.same compact.gone compact.room (ap stored_in c.share_all.ensures.same) refl refl lanes ends.same.0 ends.same.1 in (
      kept_room _ _ _ _ kept (omega (arith, c.self.invariant.0.room, as_many_open c.self.inside.lanes c.let_openings_go.new.lanes lanes, ends.room)),
      c.self.invariant.1,
      c.self.invariant.2,
      record {
        before = ends.from.0 ∙ (c.self.invariant.3.before ∙ sym (ap (λ (j : JournalView). j.before) compact.same));
        gone = ends.from.1 ∙ c.gone.ensures;
      },
    )
