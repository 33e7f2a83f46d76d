use Rattle.std.proofs.Common.{◌∙◌, ap, subst, arith}
use mathlib.Core.List.{IsPrefix}
use Rattle.am_alert.specs.declared.alert.Alert.{Alert}
use Rattle.am_cast.specs.Posters.{PassView}
use Rattle.am_store.specs.declared.call.Call.{Call}
use Rattle.am_provider.specs.Batches.{LogView}
use Rattle.am_provider.specs.BookView.{BookView, batches}
use Rattle.am_provider.specs.Vouching.{HasTakenDue}
use Rattle.am_provider.specs.inside.Vouched.{IsVouched}
use Rattle.am_provider.proofs.Calls.{has_taken, leaving}
use Rattle.am_provider.proofs.book.Book.vouch.Goals as goal

pub returns-clause-due : goal.returns-clause-due
returns-clause-due g c =
    let s = c.args.subscription.now in
    let kept = c.vouch.ensures.kept in
    let v = subst (λ (q : LogView). IsVouched q s.cursor) c.tell.ensures.same c.vouch.ensures.vouched in
    let by = leaving _ _ _ kept.0 s c.self.invariant.0 kept.1 v.lane v.given v.sound.note v.sound.start (λ told. (v.sound.seen.told told).0) v.taken v.ended in
    subst (λ (b : BookView). HasTakenDue b s) c.self.view_is (has_taken _ _ _ s by.0 c.self.invariant.0 by.1 (λ told. v.cut_is told.0) v.sound.seen.places (λ severed. let most = v.sound.lags severed in omega arith))

pub returns-clause-told : goal.returns-clause-told
returns-clause-told g c =
    let t = c.tell.ensures in
    record {
      own = t.own.0 ∙ ap (λ (p : PassView Alert Call). p.own) c.pass.view_is;
      noted = t.noted ∙ ap (λ (b : BookView). batches b) c.self.view_is;
      more = subst (λ (p : PassView Alert Call). IsPrefix p.noted c.tell.new.pass.noted) c.pass.view_is t.more;
      known = t.own.1;
    }
