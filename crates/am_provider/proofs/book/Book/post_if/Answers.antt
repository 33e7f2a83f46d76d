use Rattle.std.proofs.Common.{◌≡◌, length, inl, inr, Result, Err, sym, subst, rules}
use Rattle.am_provider.specs.BookView.{BookView}
use Rattle.std.specs.Prelude.{IfErr}
use Rattle.am_provider.specs.declared.answers.PostedIf.{PostedIf}
use Rattle.am_store.specs.declared.faults.PutFault.{PutFault}
use Rattle.am_provider.specs.Posts.{IsPutCause, IsPutIfCause, Puts}
use Rattle.am_provider.proofs.book.Book.post_if.Goals as goal

pub returns-in-Ok-clause-posted : goal.returns-in-Ok-clause-posted
returns-in-Ok-clause-posted g c =
    let kept = c.in_ok-accepted.accepted in
    let judged = c.in_ok-accepted.ensures.judged in (
      kept,
      judged,
      c.in_ok-accepted.ensures.faults,
      subst (λ (b : BookView). Puts b c.post.new.self c.args.pass.now c.post.new.pass c.args.now kept c.in-Ok.posted) c.judge.ensures.same c.in-Ok.ensures.posted,
    )

pub returns-in-Err-clause-refused : goal.returns-in-Err-clause-refused
returns-in-Err-clause-refused g c =
    let judged = c.in_ok-accepted.ensures.judged in
    let kept = c.in_ok-accepted.accepted.valid in
    inr (
      kept,
      c.in_ok-accepted.refused.items,
      judged,
      subst (λ (b : BookView). IsPutCause b c.post.new.self (length kept) c.in-Err.fault) c.judge.ensures.same c.in-Err.ensures.refused,
    )

pub returns-in_err-accepted-clause-refused : goal.returns-in_err-accepted-clause-refused
returns-in_err-accepted-clause-refused g c =
    let fault = c.in_err-accepted.field-0.0 in
    let refused : c.from_residual.result ≡ Err fault = search rules in
    subst (λ (r : Result PostedIf PutFault). IfErr r (IsPutIfCause g.F.FnMut c.args.accepts.now c.judge.new.accepts c.args.self.now c.judge.new.self c.args.now c.args.post)) (sym refused)
    (inl (subst (λ (b : BookView). IsPutCause c.args.self.now b 0 fault) (sym c.judge.ensures.same) c.in_err-accepted.ensures.refused, c.in_err-accepted.ensures.asked))
