use Rattle.std.proofs.Common.{◌≡◌, ◌<◌, length, ap, ◌∙◌, subst, false}
use Rattle.am_cast.specs.declared.limits.TheConstants.{LONGEST_LOG}
use Rattle.am_cast.specs.declared.batch_view.BatchView.{BatchView}
use Rattle.am_cast.specs.declared.views.Tail.{Tail}
use Rattle.am_cast.specs.Changes.{longer_tail}
use Rattle.am_cast.proofs.writer.Writer.publish.Goals as goal

pub returns-in-Ok-clause-ok : goal.returns-in-Ok-clause-ok
returns-in-Ok-clause-ok g c =
    let sent = c.in-Ok.ensures.ok in
    let x = sent.1 in
    let tail : c.harvest-full.new.self.tail ≡ c.args.self.now.tail = c.harvest-full.ensures.harvested.tail in (
      sent.0 ∙ ap (λ (t : Tail (BatchView g.row.T.Denot g.row.P.Denot)). length t.log) tail,
      subst (λ (t : Tail (BatchView g.row.T.Denot g.row.P.Denot)). (t.closed ≡ false) × (length t.log < LONGEST_LOG)) tail c.in_default.ensures.none.0,
      (x.0, x.1, x.2, x.3 ∙ ap (λ (t : Tail (BatchView g.row.T.Denot g.row.P.Denot)). longer_tail x.0 t) tail, x.4),
    )
