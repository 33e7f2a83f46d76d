-- What the Book answers is what the history of its calls says.
use Rattle.std.proofs.Common.{◌≡◌, ◌↔◌, ◌⊎◌, inl, inr, cond, nat_le, ⊎_elim, ℕ, suc, ◌+◌, ◌-◌, ◌≤◌, ◌<◌, Bool, true, false, IsTrue, List, [], ◌∷◌, ◌++◌, length, filter, take, drop, Option, None, Result, Ok, Err, refl, sym, ap, subst, ◌∙◌, arith, slice_index_or, length-append, length-drop}
use mathlib.Core.List.{IsPrefix}
use mathlib.Core.Logic.{dite}
use native.Mathlib.Decide.{ℕ_discrete}
use Rattle.std.specs.Result.{IfOk, IsErrOf}
use Rattle.std.proofs.lemmas.List.{append-nil, append_cancel_right}
use Rattle.am_alert.specs.Merging.{is_resolved_at}
use Rattle.am_alert.specs.declared.alert.Alert.{Alert}
use Rattle.am_alert.specs.declared.post.Post.{Post}
use Rattle.am_segment.specs.Segments.{KeyView}
use Rattle.am_cast.specs.declared.views.Account.{Account}
use Rattle.am_cast.specs.declared.views.Tail.{Tail}
use Rattle.am_cast.specs.Rule.{live, cut}
use Rattle.am_cast.specs.Seats.{account_of}
use Rattle.am_cast.specs.Writers.{StaysAs}
use Rattle.am_history.specs.Fronts.{FrontView, made_at}
use Rattle.am_store.specs.declared.call.Call.{Call}
use Rattle.am_store.specs.declared.call.Call.TheVariants.{Collected, Posted}
use Rattle.am_store.specs.declared.lanes.OpenLane.{OpenLane}
use Rattle.am_store.specs.Judging.{Filter, AreJudged}
use Rattle.am_store.specs.Journal.{JournalView, new_journal, with_call, is_closed, is_open, first_calls, until, AreAllOpen, IsOpenSubscription}
use Rattle.am_provider.specs.declared.answers.Ended.{Ended}
use Rattle.am_provider.specs.declared.answers.Page.{Page}
use Rattle.am_provider.specs.declared.answers.Policy.{Policy}
use Rattle.am_provider.specs.declared.answers.PostedIf.{PostedIf}
use Rattle.am_store.specs.declared.faults.PutFault.{PutFault}
use Rattle.am_store.specs.declared.faults.PutFault.TheVariants as put
use Rattle.am_provider.specs.Batches.{Batch}
use Rattle.am_provider.specs.BookView.{BookView, IsFaithful, batches}
use Rattle.am_provider.specs.Callers.{SeesCall}
use Rattle.am_provider.specs.Headline.{AreSentSince, Discards, TakesItsDue, AnswersCollect, AnswersPost, AnswersTake, IsPage, IsPutRefusal, IsSubRefusal}
use Rattle.am_store.specs.declared.faults.SubFault.{SubFault}
use Rattle.am_store.specs.declared.faults.SubFault.TheVariants as sub
use Rattle.am_provider.specs.Histories.{EntryView, Accepted, batch_count, calls_of, whole, trimmed_by, stored_after, is_cut}
use Rattle.am_provider.specs.Posts.{IsAsBefore, IsPutCause, WasAskedBefore}
use Rattle.am_provider.specs.inside.Records.{IsRecorded}
use Rattle.am_store.proofs.Opens.{is_still_open, lane_low, one_open}
use Rattle.am_store.proofs.Trims.{sent_until}
use Rattle.am_store.specs.declared.journal.TheConstants.{MAX_BEFORE}
use Rattle.am_store.specs.Trims.{Drops}
use Rattle.am_store.specs.Broadcast.{broadcast, items_of, IsFront}
use Rattle.am_store.specs.Stored.{first_reports}
use Rattle.am_provider.specs.Subscriptions.{SubscriptionView, taken}
use Rattle.am_provider.specs.Vouching.{HasTakenDue}
use Rattle.am_provider.proofs.Recording.{lagged_within, open_whole, same, same_closed, same_count, same_open, tells_of}
use Rattle.am_provider.proofs.Trimming.{sent_each}

-- ---- a caller that has seen its call

pub sees_added : (was is : FrontView EntryView) (before after : List EntryView) (entry : EntryView) (Answers : List EntryView → List EntryView → Type 0) → after ≡ before ++ entry ∷ [] → IsPrefix was.seen before
    → is.seen ≡ after → is.made ≡ was.made ++ made_at (length before) entry ∷ [] → (is.seat ≡ was.seat) × (is.looks ≡ was.looks + 1) → Answers before (entry ∷ []) → SeesCall was is Answers
sees_added was is before after entry Answers longer known seen made looked it =
    record { before = before; added = entry ∷ []; known = known; seen = seen ∙ longer; made = made; same = looked.0; looked = looked.1; answers = it }

-- the same of an entry whose call is known by another name
pub sees_called : (was is : FrontView EntryView) (before after : List EntryView) (given call : Call) (bits : ℕ) (ended : Option Ended) (Answers : List EntryView → List EntryView → Type 0) → given ≡ call
    → after ≡ before ++ Accepted given bits ended ∷ [] → IsPrefix was.seen before → is.seen ≡ after → is.made ≡ was.made ++ made_at (length before) (Accepted given bits ended) ∷ [] → (is.seat ≡ was.seat) × (is.looks ≡ was.looks + 1)
    → Answers before (Accepted call bits ended ∷ []) → SeesCall was is Answers
sees_called was is before after given call bits ended Answers same longer known seen made looked it =
    sees_added was is before after (Accepted call bits ended) Answers (longer ∙ ap (λ c. before ++ Accepted c bits ended ∷ []) same) known seen
    (made ∙ ap (λ c. was.made ++ made_at (length before) (Accepted c bits ended) ∷ []) same) looked it

pub sees_none : (was is : FrontView EntryView) (before : List EntryView) (Answers : List EntryView → List EntryView → Type 0) → IsPrefix was.seen before → is ≡ record was { seen = before; looks = was.looks + 1 } → Answers before [] → SeesCall was is Answers
sees_none was is before Answers known same it = record {
  before = before;
  added = [];
  known = known;
  seen = ap (λ (f : FrontView EntryView). f.seen) same ∙ sym (Rattle.std.proofs.lemmas.List.append-nil before);
  made = ap (λ (f : FrontView EntryView). f.made) same ∙ sym (Rattle.std.proofs.lemmas.List.append-nil was.made);
  same = ap (λ (f : FrontView EntryView). f.seat) same;
  looked = ap (λ (f : FrontView EntryView). f.looks) same;
  answers = it;
}

-- a collection that shared what it removed before it made the entry of one that counts
pub sees_taken : (E : Type 0) (now removed : ℕ) (resolved : List Alert) (was is : FrontView EntryView) (entries : List EntryView) (olds : List Alert) → olds ≡ stored_after entries
    → resolved ≡ filter (is_resolved_at now) olds → is.seen ≡ entries ++ Accepted (Collected now) 0 None ∷ []
    → SeesCall was is (AnswersCollect {E = E} now (Ok removed)) → SeesCall was is (AnswersTake {E = E} now (Ok resolved))
sees_taken E now removed resolved was is entries olds whole all seen sees =
    let entry = Accepted (Collected now) 0 None ∷ [] in
    let same : sees.before ≡ entries =
    append_cancel_right sees.before entries entry (sym (ap (λ (added : List EntryView). sees.before ++ added) sees.answers.1) ∙ (sym sees.seen ∙ seen)) in
    record {
      before = sees.before;
      added = sees.added;
      known = sees.known;
      seen = sees.seen;
      made = sees.made;
      same = sees.same;
      looked = sees.looked;
      answers = (all ∙ ap (filter (is_resolved_at now)) (whole ∙ ap stored_after (sym same)), sees.answers.1);
    }

-- a page of what the Book stores is a page of what the history gives
pub page_whole : {E : Type 0} (from most number : ℕ) (olds : List Alert) (entries : List EntryView) (result : Result Page E) → IfOk result (λ page. page.alerts ≡ take most (drop from olds)) → IfOk result (λ page. page.stored ≡ length olds)
    → IfOk result (λ page. page.calls ≡ number) → olds ≡ stored_after entries → number ≡ length (calls_of entries) → IfOk result (IsPage from most entries)
page_whole from most number olds entries (Ok page) alerts stored calls same all = record {
  alerts = alerts ∙ ap (λ stored. take most (drop from stored)) same;
  stored = stored ∙ ap length same;
  calls = calls ∙ all;
}
page_whole from most number olds entries (Err fault) alerts stored calls same all = tt

-- a post of those alerts that a filter accepts
pub sees_put_if : {F : Type 0} (judges : Filter F) (accepts last : F) (policy : Policy) (places now : ℕ) (post kept : Post) (done : PostedIf) (was is : FrontView EntryView) (entries : List EntryView) (olds : List Alert)
    → olds ≡ stored_after entries → AreJudged judges now last accepts 0 olds post.valid kept.valid done.refused.items
    → is.seen ≡ entries ++ Accepted (Posted now kept.valid) done.posted.cut None ∷ []
    → SeesCall was is (AnswersPost policy places now kept (Ok done.posted))
    → SeesCall was is (λ before added.
    AreJudged judges now last accepts 0 (stored_after before) post.valid kept.valid done.refused.items
    × AnswersPost policy places now kept (Ok done.posted) before added)
sees_put_if judges accepts last policy places now post kept done was is entries olds stored judged seen sees =
    let entry = Accepted (Posted now kept.valid) done.posted.cut None ∷ [] in
    let same : sees.before ≡ entries =
    append_cancel_right sees.before entries entry (sym (ap (λ (added : List EntryView). sees.before ++ added) sees.answers.entry) ∙ (sym sees.seen ∙ seen)) in
    record {
      before = sees.before;
      added = sees.added;
      known = sees.known;
      seen = sees.seen;
      made = sees.made;
      same = sees.same;
      looked = sees.looked;
      answers = (
        subst (λ (olds : List Alert). AreJudged judges now last accepts 0 olds post.valid kept.valid done.refused.items) (stored ∙ ap stored_after (sym same)) judged,
        sees.answers,
      );
    }

-- why it is refused, once the filter was asked of all
pub sees_put_if_refused : {F : Type 0} (judges : Filter F) (accepts last : F) (policy : Policy) (places now : ℕ) (post kept : Post) (refused : List ℕ) (fault : PutFault) (was is : FrontView EntryView) (entries : List EntryView) (olds : List Alert)
    → olds ≡ stored_after entries → AreJudged judges now last accepts 0 olds post.valid kept.valid refused → is.seen ≡ entries
    → SeesCall was is (AnswersPost policy places now kept (Err fault))
    → SeesCall was is (λ before added.
    ((IsPutRefusal policy places 0 before fault × WasAskedBefore judges accepts last now (stored_after before) post.valid fault)
    ⊎ ((alerts : List Alert) × (others : List ℕ)
    × AreJudged judges now last accepts 0 (stored_after before) post.valid alerts others
    × IsPutRefusal policy places (length alerts) before fault))
    × (added ≡ []))
sees_put_if_refused judges accepts last policy places now post kept refused fault was is entries olds stored judged seen sees =
    let same : sees.before ≡ entries =
    sym (append-nil sees.before) ∙ (sym (ap (λ (added : List EntryView). sees.before ++ added) sees.answers.1) ∙ (sym sees.seen ∙ seen)) in
    record {
      before = sees.before;
      added = sees.added;
      known = sees.known;
      seen = sees.seen;
      made = sees.made;
      same = sees.same;
      looked = sees.looked;
      answers = (
        inr (kept.valid, refused, subst (λ (olds : List Alert). AreJudged judges now last accepts 0 olds post.valid kept.valid refused) (stored ∙ ap stored_after (sym same)) judged, sees.answers.0),
        sees.answers.1,
      );
    }

-- ---- lanes

module _ {policy : Policy} {places : ℕ} (book : BookView) (entries : List EntryView) (of : IsRecorded policy places book entries) (kept : IsFaithful book) where
  -- a live lane is open and not cut
  pub live_lane : (lane : ℕ) → lane < 8 → (account_of book.log lane).stand ≡ live → (is_open (whole entries) lane ≡ true) × (is_cut entries lane ≡ false)
  live_lane lane small lives = (
    same_open book entries of lane ∙ opened (is_open book.journal lane) refl,
    uncut (is_cut entries lane) refl,
  )
    where
      opened : (b : Bool) → is_open book.journal lane ≡ b → is_open book.journal lane ≡ true
      opened true e = e
      opened false e = absurd (let stands = (kept.lanes lane small).shut e in omega (arith, stands, lives))

      uncut : (b : Bool) → is_cut entries lane ≡ b → is_cut entries lane ≡ false
      uncut false e = e
      uncut true e = absurd (let stands = (tells_of book entries of lane small).yes e in omega (arith, stands, lives))

  -- it was given out at least as many batches ago as its reader is found to lag by
  pub sent_since : (lane passed count : ℕ) → lane < 8 → is_open (whole entries) lane ≡ true → (account_of book.log lane).known ≤ passed → length (batches book) ≡ passed + count → AreSentSince count lane entries
  sent_since lane passed count small opened known lags =
      let of_lane = kept.lanes lane small in
      let own = of_lane.begun (sym (same_open book entries of lane) ∙ opened) in
      let start = of_lane.start own.0 own.1 in
      let all = sent_until (whole entries) book.journal (trimmed_by entries) own.0 of.journal own.1.begun in
      let none : own.0 - 0 ≡ own.0 = omega arith in
      let front : length (broadcast (until (whole entries) own.0)) ≡ batch_count (take own.0 (calls_of entries)) =
      ap (λ n. length (broadcast (first_calls n (whole entries)))) none ∙ sent_each (first_reports new_journal.store) (take own.0 (calls_of entries)) in
      (own.0, open_whole book entries of lane own.0 own.1, omega (arith, start, all, front, own.2, known, lags, same_count book entries of))

  -- what a subscription has taken by the Book, it has by the history
  pub due_whole : (s : SubscriptionView) → HasTakenDue book s → TakesItsDue s entries
  due_whole s it =
      let number = s.cursor.lane.number in
      let owed = (same book entries of).due s.at it.lane.begun in
      record {
        lane = open_whole book entries of number s.at it.lane;
        owes = sym owed ∙ (it.owes ∙ ap (λ sent. s.opening ++ items_of (drop s.cursor.lane.start sent)) of.sent);
        front = subst (IsFront (taken s)) owed it.front;
        complete = λ told. it.complete told ∙ owed;
        told_closed = λ told. same_closed book entries of ∙ it.told_closed told;
        told_cut = λ told. was_cut (is_cut entries number) refl (it.told_cut told);
        lagged = λ severed.
            let small = lane_low book.journal number s.at kept.journal.legal it.lane in
            let had = of.lags number small severed _ ((kept.lanes number small).note s.at it.lane) in
            let most = it.lags ((tells_of book entries of number small).yes severed) in
            let few = it.places in
            lagged_within entries had (omega (arith, most, few, of.limits.1));
      }
    where
      was_cut : (b : Bool) → is_cut entries s.cursor.lane.number ≡ b → (account_of book.log s.cursor.lane.number).stand ≡ cut → is_cut entries s.cursor.lane.number ≡ true
      was_cut true e stands = e
      was_cut false e stands = absurd ((tells_of book entries of s.cursor.lane.number (lane_low book.journal s.cursor.lane.number s.at kept.journal.legal it.lane)).no e stands)

  -- what a trim discards of the Book's journal, it discards of the history's calls
  pub discards : (dropped : ℕ) → Drops book.journal dropped → Discards entries dropped
  discards dropped drops =
      let n = drops.0 in
      let before : book.journal.before + n ≡ trimmed_by entries + n = let base = of.journal.before in omega (arith, base) in
      let first : book.journal.before + n ≡ (whole entries).before + (trimmed_by entries + n) = omega (arith, before) in
      let long : length book.journal.calls ≡ length (calls_of entries) - trimmed_by entries = ap length of.journal.calls ∙ length-drop (trimmed_by entries) (calls_of entries) in
      let few = of.few in (
        n,
        record {
          within = let within = drops.1.within in omega (arith, within, long, few);
          kept = λ lane at opened. let low = drops.1.kept lane at (open_here lane at opened) in omega (arith, low, before);
          most = ⊎_elim (λ (all : n ≡ length book.journal.calls). inl (omega (arith, all, long, few)))
              (λ (least : (lane : ℕ) × IsOpenSubscription book.journal lane (book.journal.before + n)).
              inr (least.0, subst (IsOpenSubscription (whole entries) least.0) first (open_whole book entries of least.0 (book.journal.before + n) least.1)))
              drops.1.most;
        },
        drops.2 ∙ ap (λ all. cond (nat_le all MAX_BEFORE) n 0) before,
      )
    where
      open_here : (lane at : ℕ) → IsOpenSubscription (whole entries) lane at → IsOpenSubscription book.journal lane at
      open_here lane at opened =
          let small = lane_low (whole entries) lane at of.legal opened in
          let own = (kept.lanes lane small).begun (sym (same_open book entries of lane) ∙ is_still_open (whole entries) lane at opened) in
          let same : at ≡ own.0 = one_open (whole entries) lane at own.0 of.legal opened (open_whole book entries of lane own.0 own.1) in
          subst (IsOpenSubscription book.journal lane) (sym same) own.1

-- ---- why a post is refused

pub put_refusal : {policy : Policy} {places : ℕ} (a b : BookView) (entries : List EntryView) (count : ℕ) (fault : PutFault) → IsRecorded policy places a entries → IsFaithful a
    → IsAsBefore a b → IsPutCause a b count fault → IsPutRefusal policy places count entries fault
put_refusal a b entries count put.Closed of kept same why = same_closed a entries of ∙ why
put_refusal a b entries count put.NoMemory of kept same why =
    let long = same_count a entries of in
    (same_closed a entries of ∙ why.0, λ some. let still = (why.1 some).0 in let room = still.1 in omega (arith, long, room))
put_refusal a b entries count put.LogEnd of kept same why =
    let long = same_count a entries of in
    let most = why.2.1 in
    (same_closed a entries of ∙ why.0, why.1, omega (arith, long, most))
put_refusal {policy} {places} a b entries count (put.Full lane passed) of kept same why =
    let refusal = why.2.1 in
    let small = refusal.1 in
    let behind = refusal.3 in
    let lives : (account_of a.log lane).stand ≡ live = was_live (account_of a.log lane) (account_of b.log lane) (same.lanes lane small) behind.0 in
    let opened = live_lane a entries of kept lane small lives in
    let moved = (same.lanes lane small).0 in
    let long = same_count a entries of in
    let log = ap (λ (t : Tail Batch). length t.log) same.tail in
    let limit = ap (λ (t : Tail Batch). t.places) same.tail in
    let known = refusal.2 in
    let most = behind.1 in
    let still = refusal.0 in
    let room = still.1 in
    (same_closed a entries of ∙ why.0, why.1, omega (arith, long, room), sym of.limits.0 ∙ why.2.0, small, opened.0, opened.1, omega (arith, long, log, limit, known, most, of.limits.1), sent_since a entries of kept lane passed places small opened.0 (omega (arith, known, moved.4)) (omega (arith, log, limit, known, most, of.limits.1)))
  where
    was_live : (was is : Account (KeyView Alert) OpenLane) → StaysAs was is → is.stand ≡ live → was.stand ≡ live
    was_live was is on lives = dite (ℕ_discrete is.stand was.stand) (λ e. sym e ∙ lives) (λ ne. let moved = on.1.0 ne in absurd (omega (arith, moved.1, lives)))

-- a refusal before the filter was asked of all
pub judge_refusal : {policy : Policy} {places : ℕ} (a : BookView) (entries : List EntryView) (fault : PutFault) → IsRecorded policy places a entries
    → IsPutCause a a 0 fault → IsPutRefusal policy places 0 entries fault
judge_refusal a entries put.Closed of why = same_closed a entries of ∙ why
judge_refusal a entries put.NoMemory of why = (same_closed a entries of ∙ why.0, λ some. absurd (omega arith))
judge_refusal a entries put.LogEnd of why = absurd (let none = why.1 in omega arith)
judge_refusal a entries (put.Full lane passed) of why = absurd (let none = why.1 in omega arith)

-- ---- why a subscription is refused

not_so : (b : Bool) → (b ≡ true → ⊥) → b ≡ false
not_so true fails = absurd (fails refl)
not_so false fails = refl

pub sub_refusal : {T : Type 0} {policy : Policy} {places : ℕ} (a : BookView) (entries : List EntryView) (fault : SubFault) → IsRecorded policy places a entries
    → (IsErrOf {T = T} (Err fault) sub.Closed ↔ IsTrue (is_closed a.journal)) → (IsErrOf {T = T} (Err fault) sub.NoLane ↔ ((is_closed a.journal ≡ false) × AreAllOpen a.journal)) → IsSubRefusal entries fault
sub_refusal a entries sub.Closed of closed full = same_closed a entries of ∙ closed.0 refl
sub_refusal a entries sub.NoLane of closed full = let it = full.0 refl in (same_closed a entries of ∙ it.0, λ lane small. same_open a entries of lane ∙ it.1 lane small)
sub_refusal {T = T} a entries sub.NoMemory of closed full =
    let still : is_closed a.journal ≡ false = not_so (is_closed a.journal) (λ so. let other : IsErrOf {T = T} (Err sub.NoMemory) sub.Closed = closed.1 so in cc) in (
      same_closed a entries of ∙ still,
      λ all. let other : IsErrOf {T = T} (Err sub.NoMemory) sub.NoLane = full.1 (still, λ lane small. sym (same_open a entries of lane) ∙ all lane small) in cc,
    )

-- ---- the last call

last_of : (calls : List Call) (call other : Call) → slice_index_or (calls ++ call ∷ []) (length (calls ++ call ∷ []) - 1) other ≡ call
last_of [] call other = refl
last_of (first ∷ calls) call other =
    let long : length (first ∷ (calls ++ call ∷ [])) - 1 ≡ suc (length (calls ++ call ∷ []) - 1) = omega (arith, length-append calls (call ∷ [])) in
    ap (λ n. slice_index_or (first ∷ (calls ++ call ∷ [])) n other) long ∙ last_of calls call other

pub last_is : (was is : JournalView) (call given : Call) → is ≡ with_call was call → given ≡ slice_index_or is.calls (length is.calls - 1) given → given ≡ call
last_is was is call given grown found = found ∙ (ap (λ (j : JournalView). slice_index_or j.calls (length j.calls - 1) given) grown ∙ last_of was.calls call given)
