use Rattle.std.proofs.Common.{arith, ◌≡◌, ◌<◌, ◌++◌, ◌∷◌, [], ℕ, List, length, sym, ap, ◌∙◌, subst, Bool}
use Rattle.am_segment.specs.Segments.{KeyView}
use Rattle.am_cast.specs.declared.limits.TheConstants.{LONGEST_LOG}
use Rattle.am_cast.specs.declared.batch_view.BatchView.{BatchView}
use Rattle.am_cast.specs.declared.views.Own.{Own}
use Rattle.am_cast.specs.declared.views.Tail.{Tail}
use Rattle.am_cast.specs.declared.views.View.{View}
use Rattle.am_cast.specs.declared.views.WriterView.{WriterView}
use Rattle.am_cast.specs.Changes.{longer_tail, own_at}
use Rattle.am_cast.specs.Posters.{PassView}
use Rattle.am_cast.specs.declared.views.Account.{Account}
use Rattle.am_cast.specs.Writers.{StandsOn, IsCutAs}
use Rattle.am_cast.proofs.writer.Writer.publish_cutting.Goals as goal

pub returns-clause-ok : goal.returns-clause-ok
returns-clause-ok g c = let p = c.post.ensures.place in let tail : c.make_all_room-cut.new.self.known.tail ≡ c.args.self.now.tail = c.make_all_room-cut.ensures.tail ∙ ap (λ (q : WriterView (BatchView g.row.T.Denot g.row.P.Denot) (KeyView g.row.T.Denot) g.row.A.Denot). q.tail) c.reserve.ensures.known ∙ c.harvest.ensures.same.tail ∙ ap (λ (q : WriterView (BatchView g.row.T.Denot g.row.P.Denot) (KeyView g.row.T.Denot) g.row.A.Denot). q.tail) c.self.view_is in
    let found : c.harvest.new.self.known.tail ≡ c.args.self.now.tail = c.harvest.ensures.same.tail ∙ ap (λ (q : WriterView (BatchView g.row.T.Denot g.row.P.Denot) (KeyView g.row.T.Denot) g.row.A.Denot). q.tail) c.self.view_is in
    let few = c.if-len-ge-LONGEST_LOG.false in let len = c.len.ensures.0 in (
      c.len-place.ensures.0 ∙ ap (λ (t : Tail (BatchView g.row.T.Denot g.row.P.Denot)). length t.log) tail,
      (
        sym (ap (λ (t : Tail (BatchView g.row.T.Denot g.row.P.Denot)). t.closed) found) ∙ (sym c.is_closed.ensures ∙ c.if-is_closed.false),
        subst (λ (t : Tail (BatchView g.row.T.Denot g.row.P.Denot)). length t.log < LONGEST_LOG) found (omega arith),
      ),
      (
        p.0,
        p.1,
        p.2,
        p.3 ∙ ap (λ (t : Tail (BatchView g.row.T.Denot g.row.P.Denot)). longer_tail p.0 t) tail,
        c.note.ensures.own ∙ ap (λ (w : View (BatchView g.row.T.Denot g.row.P.Denot) (KeyView g.row.T.Denot) g.row.A.Denot). w.own) p.6 ∙ ap (λ (own : List (Own (BatchView g.row.T.Denot g.row.P.Denot))). own ++ own_at (length c.make_all_room-cut.new.self.known.tail.log) p.0 ∷ []) (ap (λ (v : PassView g.row.T.Denot g.row.P.Denot). v.own) c.pass.view_is)
            ∙ ap (λ (n : ℕ). c.args.pass.now.own ++ own_at n p.0 ∷ []) (sym c.len-place.ensures.0),
      ),
    )

-- a lane that was cut between two moments, as it stands later and was called before
cut_later : {K A : Type 0} (n m places size : ℕ) (b c d e : Account K A) (bit : Bool) → StandsOn b c → IsCutAs n places c d bit → e.stand ≡ d.stand → e.known ≡ d.known → e.half ≡ d.half
    → n ≡ m → places ≡ size → IsCutAs m size b e bit
cut_later n m places size b c d e bit on is stand known half log same = grind arith

pub returns-clause-cut : goal.returns-clause-cut
returns-clause-cut g c l small = grind (arith, cut_later)
