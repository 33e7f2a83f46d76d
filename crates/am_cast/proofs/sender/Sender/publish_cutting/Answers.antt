use Rattle.std.proofs.Common.{subst, IfOk}
use Rattle.am_cast.specs.Posters.{SenderView, IsPosted}
use Rattle.am_cast.proofs.sender.Sender.publish_cutting.Goals as goal

pub returns-clause-ok : goal.returns-clause-ok
returns-clause-ok g c =
    subst (λ (s : SenderView g.row.T.Denot g.row.P.Denot g.row.A.Denot). IfOk c.publish_cutting-done.result
    (λ r. IsPosted c.args.batch.items c.args.post.value s.writer c.publish_cutting-done.new.self s.pass c.publish_cutting-done.new.pass r.place))
    c.self.view_is c.publish_cutting-done.ensures.ok
