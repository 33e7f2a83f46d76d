use Rattle.std.proofs.Common.{◌≡◌, ◌∙◌, inl, refl, sym, ap, subst, List}
use Rattle.am_alert.specs.declared.alert.Alert.{Alert}
use Rattle.am_alert.specs.declared.post.Post.{Post}
use Rattle.am_store.specs.Judging.{AreJudged}
use Rattle.am_provider.specs.Posts.{WasAskedBefore}
use Rattle.am_provider.proofs.Answering.{judge_refusal, sees_none, sees_put_if, sees_put_if_refused}
use Rattle.am_provider.proofs.Recording.{stored_whole}
use Rattle.am_provider.proofs.provider.Provider.put_if.Goals as goal

pub returns-in-Err-clause-answers : goal.returns-in-Err-clause-answers
returns-in-Err-clause-answers g c =
    let stored = stored_whole c.recorded.inside.book c.recorded.inside.history c.recorded.invariant.0 c.kept.ensures in (
      sees_none c.args.caller.now.front c.show.new.to c.recorded.inside.history _ c.show.ensures.seen c.show.ensures.to (
        inl (
          judge_refusal c.recorded.inside.book c.recorded.inside.history c.in-Err.fault c.recorded.invariant.0 c.in-Err.ensures.refused,
          subst (λ (olds : List Alert). WasAskedBefore g.F.FnMut c.args.accepts.now c.judge.new.accepts c.args.now olds c.args.post.valid c.in-Err.fault) stored c.in-Err.ensures.asked,
        ),
        refl,
      ),
      refl,
    )

pub returns-clause-answers : goal.returns-clause-answers
returns-clause-answers g c =
    let kept = c.of-accepted.result in
    let refused = c.in-Ok.judged.1.items in
    let same : kept ≡ c.in-Ok.judged.0 = c.of-accepted.ensures in
    let judged = subst (λ (p : Post). AreJudged g.F.FnMut c.args.now c.judge.new.accepts c.args.accepts.now 0 c.recorded.inside.book.stored c.args.post.valid p.valid refused) (sym same) c.in-Ok.ensures.judged in
    let stored = stored_whole c.recorded.inside.book c.recorded.inside.history c.recorded.invariant.0 c.kept.ensures in (
      kept,
      ap (λ (p : Post). p.faults) same ∙ c.in-Ok.ensures.faults,
      sees_put_if g.F.FnMut c.args.accepts.now c.judge.new.accepts g.N.Recorded.policy g.N.Recorded.places c.args.now c.args.post kept (record { posted = c.in-Ok-post.posted; refused = c.in-Ok.judged.1 })
          c.args.caller.now.front c.post.new.caller.front c.recorded.inside.history c.recorded.inside.book.stored stored judged c.in-Ok-post.ensures.seen c.in-Ok-post.ensures.sees,
      c.in-Ok-post.ensures.own,
    )

pub returns-in-Err-post-clause-answers : goal.returns-in-Err-post-clause-answers
returns-in-Err-post-clause-answers g c =
    let kept = c.of-accepted.result in
    let refused = c.in-Ok.judged.1.items in
    let same : kept ≡ c.in-Ok.judged.0 = c.of-accepted.ensures in
    let judged = subst (λ (p : Post). AreJudged g.F.FnMut c.args.now c.judge.new.accepts c.args.accepts.now 0 c.recorded.inside.book.stored c.args.post.valid p.valid refused) (sym same) c.in-Ok.ensures.judged in
    let stored = stored_whole c.recorded.inside.book c.recorded.inside.history c.recorded.invariant.0 c.kept.ensures in (
      sees_put_if_refused g.F.FnMut c.args.accepts.now c.judge.new.accepts g.N.Recorded.policy g.N.Recorded.places c.args.now c.args.post kept refused c.in-Err-post.fault
          c.args.caller.now.front c.post.new.caller.front c.recorded.inside.history c.recorded.inside.book.stored stored judged c.in-Err-post.ensures.unseen c.in-Err-post.ensures.sees,
      c.in-Err-post.ensures.err,
    )
