use Rattle.std.proofs.Common.{◌≡◌, ◌<◌, length, ap, ◌∙◌, subst, false}
use Rattle.am_segment.specs.Segments.{BuilderView, KeyView}
use Rattle.am_cast.specs.declared.limits.TheConstants.{LONGEST_LOG}
use Rattle.am_cast.specs.declared.batch_view.BatchView.{BatchView}
use Rattle.am_cast.specs.declared.views.Tail.{Tail}
use Rattle.am_cast.specs.declared.views.WriterView.{WriterView}
use Rattle.am_cast.specs.Changes.{longer_tail}
use Rattle.am_cast.proofs.writer.Writer.publish_one.Goals as goal

pub item_of-item-requires : goal.item_of-item-requires
item_of-item-requires g c = (c.args.item, ap (λ (b : BuilderView g.row.T.Denot). b.items) c.in-Err-publish_harvested.ensures.refused ∙ c.in-Ok.ensures.ok)

pub returns-in-Ok-publish_harvested-clause-ok : goal.returns-in-Ok-publish_harvested-clause-ok
returns-in-Ok-publish_harvested-clause-ok g c =
    let sent = c.in-Ok-publish_harvested.ensures.ok in
    let x = sent.1 in
    let found : c.harvest-full.new.self.tail ≡ c.args.self.now.tail = c.harvest-full.ensures.harvested.tail in
    let tail : c.batch_of.new.self.tail ≡ c.args.self.now.tail = ap (λ (q : WriterView (BatchView g.row.T.Denot g.row.P.Denot) (KeyView g.row.T.Denot) g.row.A.Denot). q.tail) c.in-Ok.ensures.same ∙ found in (
      sent.0 ∙ ap (λ (t : Tail (BatchView g.row.T.Denot g.row.P.Denot)). length t.log) tail,
      subst (λ (t : Tail (BatchView g.row.T.Denot g.row.P.Denot)). (t.closed ≡ false) × (length t.log < LONGEST_LOG)) found c.in_default.ensures.none.0,
      (x.0, x.1, x.2 ∙ c.in-Ok.ensures.ok, x.3 ∙ ap (λ (t : Tail (BatchView g.row.T.Denot g.row.P.Denot)). longer_tail x.0 t) tail, x.4),
    )
