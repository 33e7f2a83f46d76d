use Rattle.std.proofs.Common.{rules, refl, sym, subst}
use Rattle.am_segment.specs.Segments.{KeyView}
use Rattle.am_cast.specs.declared.batch_view.BatchView.{BatchView}
use Rattle.am_cast.specs.declared.views.View.{View}
use Rattle.am_cast.specs.Changes.{shut}
use Rattle.am_cast.specs.Seats.{writer_of}
use Rattle.am_cast.proofs.Waiting.{fits_tail}
use Rattle.am_cast.proofs.writer.state.WriterState.close.Goals as goal

pub invariant_of-self : goal.invariant_of-self
invariant_of-self g c = (
  search rules,
  subst (λ (w : View (BatchView g.row.T.Denot g.row.P.Denot) (KeyView g.row.T.Denot) g.row.A.Denot). Rattle.am_cast.specs.inside.Waiting.RowsFit (writer_of w) c.self.inside.rows) (sym c.close_log.ensures.writer)
      (fits_tail (writer_of c.self.inside.seat.me.0) (shut (writer_of c.self.inside.seat.me.0)) c.self.inside.rows refl refl c.self.invariant.1),
  c.self.invariant.2,
)
