use Rattle.std.proofs.Common.{◌≡◌, ◌∙◌, ℕ, ◌+◌, ◌<◌, true, cond, nat_eq, [], ◌∷◌, ◌++◌, None, Some, length, refl, sym, ap, subst}
use Rattle.am_cast.specs.Seats.{account_of}
use Rattle.am_cast.specs.Writers.{IsCutAs}
use Rattle.am_store.specs.LaneSets.{has_lane}
use Rattle.am_store.specs.declared.call.Call.TheVariants.{Posted}
use Rattle.am_provider.specs.BookView.{batches}
use Rattle.am_provider.specs.Histories.{Accepted}
use Rattle.am_provider.specs.inside.Records.{IsRecorded}
use Rattle.am_provider.proofs.Answering.{last_is, live_lane, put_refusal, sent_since, sees_called, sees_none}
use Rattle.am_provider.proofs.Recording.{cuts_posted, lags_posted, may_whole, recorded_more, same_count}
use Rattle.am_provider.proofs.recorded_book.RecordedBook.post.Goals as goal

pub invariant_of-self-2 : goal.invariant_of-self-2
invariant_of-self-2 g c =
    let old = c.self.inside.book in
    let new = c.post_prepared.new.self in
    let entries = c.self.inside.history in
    let posted = c.in-Ok.ensures.posted in
    let call = Posted c.args.now c.args.post.valid in
    let bits = c.in-Ok.posted.cut in
    let last : c.last_call.result.now ≡ call = last_is old.journal new.journal call c.last_call.result.now posted.journal c.last_call.ensures in (
      subst (IsRecorded g.N.Recorded.policy g.N.Recorded.places new) (sym (c.record.ensures.longer ∙ ap (λ one. entries ++ Accepted one bits None ∷ []) last))
          (recorded_more old new entries call bits None c.self.invariant.0 c.kept.ensures c.kept-2.ensures posted.journal
          c.in-Ok.ensures.log c.in-Ok.ensures.rest.limits (cuts_posted old new c.args.now c.args.post.valid bits posted.cut) (lags_posted old new entries c.args.now c.args.post.valid bits c.self.invariant.0 c.kept.ensures posted.cut) c.in-Ok.ensures.rest.endings c.in-Ok.ensures.rest.gone),
      c.self.invariant.1,
    )

pub returns-clause-sees : goal.returns-clause-sees
returns-clause-sees g c =
    let old = c.self.inside.book in
    let new = c.post_prepared.new.self in
    let entries = c.self.inside.history in
    let posted = c.in-Ok.ensures.posted in
    let call = Posted c.args.now c.args.post.valid in
    let bits = c.in-Ok.posted.cut in
    let last : c.last_call.result.now ≡ call = last_is old.journal new.journal call c.last_call.result.now posted.journal c.last_call.ensures in
    let was_cut = λ (lane : ℕ) (small : lane < 8) (yes : has_lane bits lane ≡ true).
    subst (IsCutAs (length (batches old)) old.log.tail.places (account_of old.log lane) (account_of new.log lane)) yes (posted.cut.cuts lane small) in
    sees_called c.args.caller.now.front c.record.new.caller.front entries c.record.new.history c.last_call.result.now call bits None _
    last c.record.ensures.longer c.record.ensures.known c.record.ensures.seen c.record.ensures.made c.record.ensures.looked
    (record {
      still_open = may_whole old new entries call c.self.invariant.0 c.kept-2.ensures posted.journal;
      valid = posted.valid;
      faults = posted.faults;
      place = posted.place ∙ ap (λ n. cond (nat_eq (length c.args.post.valid) 0) None (Some n)) (sym (same_count old entries c.self.invariant.0));
      cuts = λ lane small yes. live_lane old entries c.self.invariant.0 c.kept.ensures lane small (was_cut lane small yes).0;
      late = λ lane small yes.
          let cut = was_cut lane small yes in
          let live = live_lane old entries c.self.invariant.0 c.kept.ensures lane small cut.0 in
          sent_since old entries c.self.invariant.0 c.kept.ensures lane (account_of new.log lane).known g.N.Recorded.places small live.0 (posted.cut.lanes lane small).4
          (cut.2 ∙ ap (λ n. (account_of new.log lane).known + n) c.self.invariant.0.limits.1);
      refuses = λ refuse. posted.cut.none (c.self.invariant.0.limits.0 ∙ refuse);
      entry = refl;
    })

pub returns-in-Err-clause-sees : goal.returns-in-Err-clause-sees
returns-in-Err-clause-sees g c =
    sees_none c.args.caller.now.front c.show.new.to c.self.inside.history _ c.show.ensures.seen c.show.ensures.to
    (put_refusal c.self.inside.book c.post_prepared.new.self c.self.inside.history (length c.args.post.valid) c.in-Err.fault c.self.invariant.0 c.kept.ensures c.in-Err.ensures.err.0 c.in-Err.ensures.refused, refl)

pub last_call-requires : goal.last_call-requires
last_call-requires g c = c.in-Ok.ensures.last
