use Rattle.std.proofs.Common.{◌≡◌, ◌++◌, ◌∷◌, [], ℕ, List, length, sym, ap, ◌∙◌}
use Rattle.am_segment.specs.Segments.{KeyView}
use Rattle.am_cast.specs.declared.batch_view.BatchView.{BatchView}
use Rattle.am_cast.specs.declared.views.Own.{Own}
use Rattle.am_cast.specs.declared.views.Tail.{Tail}
use Rattle.am_cast.specs.declared.views.View.{View}
use Rattle.am_cast.specs.declared.views.WriterView.{WriterView}
use Rattle.am_cast.specs.Changes.{longer_tail, own_at}
use Rattle.am_cast.specs.Posters.{PassView}
use Rattle.am_cast.proofs.writer.Writer.publish_harvested.Goals as goal

pub returns-clause-ok : goal.returns-clause-ok
returns-clause-ok g c =
    let p = c.post.ensures.place in
    let tail_of = λ (q : WriterView (BatchView g.row.T.Denot g.row.P.Denot) (KeyView g.row.T.Denot) g.row.A.Denot). q.tail in
    let tail : c.reserve.new.self.known.tail ≡ c.args.self.now.tail = ap tail_of c.reserve.ensures.known ∙ ap tail_of c.self.view_is in (
      c.len-place.ensures.0 ∙ ap (λ (t : Tail (BatchView g.row.T.Denot g.row.P.Denot)). length t.log) tail,
      (
        p.0,
        p.1,
        p.2,
        p.3 ∙ ap (λ (t : Tail (BatchView g.row.T.Denot g.row.P.Denot)). longer_tail p.0 t) tail,
        c.note.ensures.own ∙ ap (λ (w : View (BatchView g.row.T.Denot g.row.P.Denot) (KeyView g.row.T.Denot) g.row.A.Denot). w.own) p.6 ∙ ap (λ (own : List (Own (BatchView g.row.T.Denot g.row.P.Denot))). own ++ own_at (length c.reserve.new.self.known.tail.log) p.0 ∷ []) (ap (λ (v : PassView g.row.T.Denot g.row.P.Denot). v.own) c.pass.view_is)
            ∙ ap (λ (n : ℕ). c.args.pass.now.own ++ own_at n p.0 ∷ []) (sym c.len-place.ensures.0),
      ),
    )
