use Rattle.std.proofs.Common.{◌≡◌, ℕ, Result, Err, sym, subst, arith, rules}
use Rattle.std.specs.Prelude.{IfErr}
use Rattle.std.specs.declared.alloc.Global.{Global}
use Rattle.std.specs.declared.vec.Vec.{Vec}
use Rattle.am_alert.specs.declared.post.Post.{Post}
use Rattle.am_store.specs.Judging.{AreJudged, WasAsked}
use Rattle.am_provider.specs.BookView.{BookView}
use Rattle.am_provider.specs.Posts.{WasAskedBefore}
use Rattle.am_store.specs.declared.faults.PutFault.{PutFault}
use Rattle.am_store.specs.declared.faults.PutFault.TheVariants.{NoMemory, Closed}
use Rattle.am_alert.specs.ValidAlerts.{IsWellFormed}
use Rattle.am_store.specs.AlertMaps.{stored_in}
use Rattle.am_store.proofs.Judging.{accepted_all, accepted_few}
use Rattle.am_provider.proofs.book.Book.judge.Goals as goal

pub invariant_of-accepted : goal.invariant_of-accepted
invariant_of-accepted g c =
    let judged = c.in_ok-accepted.ensures.judged in
    let olds = stored_in c.self.inside.stored in
    let kept = c.in_ok-accepted.field-0 in
    let few = accepted_few g.F.FnMut c.args.now 0 c.judge.new.accepts c.args.accepts.now olds c.args.post.valid kept.accepted kept.refused.items judged in
    record {
      few = omega (arith, few, c.args.post.few);
      well_formed = accepted_all g.F.FnMut IsWellFormed c.args.now 0 c.judge.new.accepts c.args.accepts.now olds c.args.post.valid kept.accepted kept.refused.items c.args.post.well_formed judged;
      rising = c.args.post.rising;
    }

pub returns-clause-judged : goal.returns-clause-judged
returns-clause-judged g c =
    let done = c.in_ok-accepted.field-0 in
    subst (λ (b : BookView). AreJudged g.F.FnMut c.args.now c.judge.new.accepts c.args.accepts.now 0 b.stored c.args.post.valid done.accepted done.refused.items) c.self.view_is c.in_ok-accepted.ensures.judged

pub returns-in_err-accepted-clause-asked : goal.returns-in_err-accepted-clause-asked
returns-in_err-accepted-clause-asked g c =
    let no : c.from_residual.result ≡ Err NoMemory = search rules in
    let asked = subst (λ (b : BookView). WasAsked g.F.FnMut c.args.now c.judge.new.accepts c.args.accepts.now b.stored c.args.post.valid) c.self.view_is c.in_err-accepted.ensures.asked in
    subst (λ (r : Result (Post × Vec ℕ Global) PutFault). IfErr r (WasAskedBefore g.F.FnMut c.args.accepts.now c.judge.new.accepts c.args.now c.args.self.now.stored c.args.post.valid)) (sym no) (asked, λ (closed : NoMemory ≡ Closed). cc)
