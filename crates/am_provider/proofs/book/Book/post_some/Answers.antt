use Rattle.std.proofs.Common.{◌≡◌, ◌≢◌, ◌≤◌, ◌<◌, ◌++◌, ◌∷◌, [], length, Result, Err, IfErr, refl, sym, ap, subst, ◌∙◌, ℕ, false, rules, arith}
use Rattle.std.proofs.lemmas.List.{append-nil, length-append}
use mathlib.Core.List.{IsPrefix}
use Rattle.am_store.specs.declared.call.Call.{Call}
use Rattle.am_store.specs.declared.call.Call.TheVariants.{Posted}
use Rattle.am_store.specs.Journal.{JournalView, with_call, is_closed}
use Rattle.am_store.specs.Shared.{alerts_in}
use Rattle.am_store.specs.AlertList.{with_alerts, batch_by_list}
use Rattle.am_store.specs.AlertMaps.{stored_in}
use Rattle.am_store.proofs.Entries.{length_batch, length_became}
use Rattle.am_alert.specs.declared.alert.Alert.{Alert}
use Rattle.am_cast.specs.declared.views.Tail.{Tail}
use Rattle.am_cast.specs.declared.limits.TheConstants.{LONGEST_LOG}
use Rattle.am_cast.specs.Changes.{longer_tail, own_at}
use Rattle.am_cast.specs.Seats.{account_of}
use Rattle.am_cast.specs.Posters.{PassView}
use Rattle.am_provider.specs.Batches.{Batch}
use Rattle.am_cast.specs.declared.writer.Published.{Published}
use Rattle.am_provider.specs.BookView.{BookView, batches}
use Rattle.am_provider.specs.Posts.{IsPutCause}
use Rattle.am_provider.specs.inside.Shelves.{view_of}
use Rattle.am_provider.specs.Sending.{IsLogCause}
use Rattle.am_store.specs.declared.faults.PutFault.{PutFault}
use Rattle.am_store.specs.declared.faults.PutFault.TheVariants as put_fault
use Rattle.am_provider.proofs.Shelves.{GoesOnAs, stays_as, cut_as, goes_on_twice, kept_alike}
use Rattle.am_provider.proofs.Calls.{kept_posted}
use Rattle.am_provider.proofs.Endings.{still_endings_of}
use Rattle.am_provider.proofs.Rising.{one_more}
use Rattle.am_provider.proofs.book.Book.post_some.Goals as goal

pub send_batch-requires-clause-some : goal.send_batch-requires-clause-some
send_batch-requires-clause-some g c =
    let olds = stored_in c.self.inside.stored in
    let news = c.in_ok-reports.field-0 in
    let count : length c.in_ok-batch.field-0.batch.items ≡ length news = length_became c.in_ok-batch.field-0.batch.items c.args.now news olds c.in_ok-batch.ensures.batch in
    let same : news ≡ c.args.valid = search rules in
    omega (arith, c.requires.given.1, count, ap length same)

pub invariant_of-self-in-Ok : goal.invariant_of-self-in-Ok
invariant_of-self-in-Ok g c =
    let kept = c.self.invariant.0 in
    let olds = stored_in c.self.inside.stored in
    let valid = c.args.valid in
    let batch = alerts_in c.in_ok-batch.field-0.batch.items in
    let same : c.in_ok-reports.field-0 ≡ valid = search rules in
    let became : batch ≡ batch_by_list c.args.now valid olds = c.in_ok-batch.ensures.batch ∙ ap (λ news. batch_by_list c.args.now news olds) same in
    let stored : stored_in c.absorb.new.self ≡ with_alerts batch olds =
    c.in_ok-batch.ensures.stored ∙ (ap (λ news. with_alerts (batch_by_list c.args.now news olds) olds) same ∙ ap (λ b. with_alerts b olds) (sym became)) in
    let tail = c.look_for_room.ensures.harvested.tail in
    let sent = c.in-Ok.ensures.sent in
    let x = sent.batch in
    let lanes : (lane : ℕ) → lane < 8 → GoesOnAs (account_of c.self.inside.log lane) (account_of c.send_batch.new.writer lane) =
    λ lane small. goes_on_twice (account_of c.self.inside.log lane) (account_of c.look_for_room.new.writer lane) (account_of c.send_batch.new.writer lane)
    (stays_as _ _ (c.look_for_room.ensures.harvested.each lane small)) (cut_as _ _ _ _ _ (sent.lanes lane small) (sent.cuts lane small)) in
    let still : c.self.inside.log.tail.closed ≡ false = kept.pages.closed ∙ (ap (λ (b : BookView). is_closed b.journal) c.self.view_is ∙ c.requires.given.0) in
    let posted : x.0.post ≡ Posted c.args.now valid = x.1 in
    let few : length c.self.inside.log.tail.log < LONGEST_LOG = omega (arith, c.in_ok-look_for_room.ensures.few, ap (λ (t : Tail Batch). length t.log) tail) in
    let room : 9 ≤ c.push.new.self.room = omega (arith, c.in_ok-reserve.ensures.room, c.push.ensures.room) in
    let gone : c.push.new.self.gone ≡ c.self.inside.journal.gone = c.push.ensures.gone.0 ∙ c.in_ok-reserve.ensures.same.1 in
    let journal : c.push.new.self.journal ≡ with_call c.self.inside.journal.journal (Posted c.args.now valid) =
    c.push.ensures.journal ∙ ap (λ (j : JournalView). with_call j (Posted c.args.now valid)) c.in_ok-reserve.ensures.same.0 in (
      kept_posted _ _ _ _ _ c.args.now valid batch x.0 kept still journal stored became (ap length became ∙ length_batch c.args.now valid olds) c.requires.given.2 c.requires.given.1 few
          posted x.2 (x.3 ∙ ap (longer_tail x.0) tail) lanes refl refl refl refl c.add.ensures.total gone room,
      c.self.invariant.1,
      c.self.invariant.2,
      still_endings_of _ _ _ _ c.self.invariant.3 refl refl (ap (λ (j : JournalView). j.before) journal) gone,
    )

pub invariant_of-self-in-Err : goal.invariant_of-self-in-Err
invariant_of-self-in-Err g c =
    let entries : c.take_back.new.self ≡ c.self.inside.stored = c.take_back.ensures ∙ c.in_ok-batch.ensures.back in
    let unsent = c.in-Err.ensures.unsent in
    let same = c.in_ok-reserve.ensures.same in (
      kept_alike _ _ _ _ c.self.invariant.0 same.0 same.1 c.in_ok-reserve.ensures.kept (ap stored_in entries) (unsent.tail ∙ c.look_for_room.ensures.harvested.tail)
          (λ lane small. goes_on_twice (account_of c.self.inside.log lane) (account_of c.look_for_room.new.writer lane) (account_of c.send_batch.new.writer lane)
          (stays_as _ _ (c.look_for_room.ensures.harvested.each lane small)) (stays_as _ _ (unsent.lanes lane small))) refl refl refl refl,
      c.self.invariant.1,
      c.self.invariant.2,
      still_endings_of _ _ _ _ c.self.invariant.3 refl refl (ap (λ (j : JournalView). j.before) same.0) same.1,
    )

-- what the log knows of a lane goes on through the harvest
pub invariant_of-self-in_err-reserve : goal.invariant_of-self-in_err-reserve
invariant_of-self-in_err-reserve g c =
    let same = c.in_err-reserve.ensures.same in (
      kept_alike _ _ _ _ c.self.invariant.0 same.0 same.1 c.in_err-reserve.ensures.kept refl c.look_for_room.ensures.harvested.tail
          (λ lane small. stays_as _ _ (c.look_for_room.ensures.harvested.each lane small)) refl refl refl refl,
      c.self.invariant.1,
      c.self.invariant.2,
      still_endings_of _ _ _ _ c.self.invariant.3 refl refl (ap (λ (j : JournalView). j.before) same.0) same.1,
    )

pub invariant_of-self-in_err-reports : goal.invariant_of-self-in_err-reports
invariant_of-self-in_err-reports g c =
    let same = c.in_ok-reserve.ensures.same in (
      kept_alike _ _ _ _ c.self.invariant.0 same.0 same.1 c.in_ok-reserve.ensures.kept refl c.look_for_room.ensures.harvested.tail
          (λ lane small. stays_as _ _ (c.look_for_room.ensures.harvested.each lane small)) refl refl refl refl,
      c.self.invariant.1,
      c.self.invariant.2,
      still_endings_of _ _ _ _ c.self.invariant.3 refl refl (ap (λ (j : JournalView). j.before) same.0) same.1,
    )

pub invariant_of-self-in_err-batch : goal.invariant_of-self-in_err-batch
invariant_of-self-in_err-batch g c =
    let same = c.in_ok-reserve.ensures.same in (
      kept_alike _ _ _ _ c.self.invariant.0 same.0 same.1 c.in_ok-reserve.ensures.kept (ap stored_in c.in_err-batch.ensures.err) c.look_for_room.ensures.harvested.tail
          (λ lane small. stays_as _ _ (c.look_for_room.ensures.harvested.each lane small)) refl refl refl refl,
      c.self.invariant.1,
      c.self.invariant.2,
      still_endings_of _ _ _ _ c.self.invariant.3 refl refl (ap (λ (j : JournalView). j.before) same.0) same.1,
    )

pub returns-in-Ok-clause-own : goal.returns-in-Ok-clause-own
returns-in-Ok-clause-own g c =
    let sent = c.in-Ok.ensures.sent in
    let x = sent.batch in
    let long : length c.look_for_room.new.writer.tail.log ≡ length c.args.self.now.log.tail.log =
    ap (λ (t : Tail Batch). length t.log) c.look_for_room.ensures.harvested.tail ∙ ap (λ (b : BookView). length b.log.tail.log) c.self.view_is in (
      sent.next ∙ long,
      (
        (x.0, x.1, x.4 ∙ ap (λ (p : PassView Alert Call). p.own ++ own_at c.in-Ok.sent.place x.0 ∷ []) c.pass.view_is),
        (sent.known.0, subst (λ (p : PassView Alert Call). IsPrefix p.noted c.send_batch.new.pass.noted) c.pass.view_is sent.known.1),
      ),
    )

pub returns-in-Ok-clause-log : goal.returns-in-Ok-clause-log
returns-in-Ok-clause-log g c =
    let x = c.in-Ok.ensures.sent.batch in (
      x.0 ∷ [],
      ap (λ (b : BookView). b.log.tail.log ++ x.0 ∷ []) (sym c.self.view_is)
          ∙ (ap (λ (t : Tail Batch). t.log ++ x.0 ∷ []) (sym c.look_for_room.ensures.harvested.tail) ∙ ap (λ (t : Tail Batch). t.log) (sym x.3)),
    )

pub invariant_of-pass : goal.invariant_of-pass
invariant_of-pass g c =
    let x = c.in-Ok.ensures.sent.batch in
    let parts : c.add.new.share.parts ≡ 1 = search rules in
    let amount : c.add.new.share.amount ≡ length c.send_batch.new.pass.own = omega (arith, c.add.ensures.amount, ap length x.4, length-append c.pass.inside.pass.own (own_at c.in-Ok.sent.place x.0 ∷ []), c.pass.invariant.1) in
    (parts, amount, one_more c.pass.inside.pass.own c.send_batch.new.pass.own x.0 c.in-Ok.sent.place x.4 c.pass.invariant.2 c.in-Ok.ensures.above)

-- a cause that looking at the lanes can find
put_cause : (old new : BookView) (count : ℕ) (fault : PutFault) → is_closed old.journal ≡ false → 0 < count → fault ≢ put_fault.Closed → fault ≢ put_fault.NoMemory
    → IsLogCause old.policy old.log new.log fault → IsPutCause old new count fault
put_cause old new count put_fault.Closed still some not_closed not_memory why = absurd (not_closed refl)
put_cause old new count put_fault.NoMemory still some not_closed not_memory why = absurd (not_memory refl)
put_cause old new count put_fault.LogEnd still some not_closed not_memory why = (still, some, why)
put_cause old new count (put_fault.Full lane passed) still some not_closed not_memory why = (still, some, why)

pub returns-in_err-look_for_room-clause-refused : goal.returns-in_err-look_for_room-clause-refused
returns-in_err-look_for_room-clause-refused g c =
    let why = c.in_err-look_for_room.ensures.refused in
    let found = c.in_err-look_for_room.field-0.0 in
    let refused : c.from_residual.result ≡ Err found = search rules in
    let cause : IsLogCause c.args.self.now.policy c.args.self.now.log c.look_for_room.new.writer found =
    subst (λ (b : BookView). IsLogCause b.policy b.log c.look_for_room.new.writer found) c.self.view_is why.2 in
    let new : BookView = view_of (record {
      stored = stored_in c.self.inside.stored;
      journal = c.self.inside.journal;
      log = c.look_for_room.new.writer;
      posts = c.self.inside.posts;
      lanes = c.self.inside.lanes;
      endings = c.self.inside.endings.endings;
      early = c.self.inside.endings.early;
      policy = c.self.inside.policy;
    }) in
    subst (λ (r : Result Published PutFault). IfErr r (IsPutCause c.args.self.now new (length c.args.valid))) (sym refused)
    (put_cause c.args.self.now new (length c.args.valid) found c.requires.given.0 c.requires.given.1 why.0 why.1 cause)

-- a refused batch leaves the log as it was
pub returns-in-Err-clause-log : goal.returns-in-Err-clause-log
returns-in-Err-clause-log g c =
    let tail = c.in-Err.ensures.unsent.tail ∙ c.look_for_room.ensures.harvested.tail in
    let same : batches c.args.self.now ≡ c.send_batch.new.writer.tail.log =
    ap (λ (b : BookView). b.log.tail.log) (sym c.self.view_is) ∙ ap (λ (t : Tail Batch). t.log) (sym tail) in
    search (rules, append-nil)
