-- A Book's fields as a call comes.
use Rattle.std.proofs.Common.{◌≡◌, ◌≢◌, ℕ, ◌+◌, ◌<◌, ◌≤◌, Bool, true, false, cond, ◌||◌, List, [], ◌∷◌, ◌++◌, length, drop, map, filter, Option, None, Some, All, sym, ap, subst, ◌∙◌, arith, length-append}
use mathlib.Core.Logic.{dite}
use native.Mathlib.Decide.{ℕ_discrete}
use Rattle.std.specs.Option.{is_some, IfSome}
use Rattle.std.proofs.lemmas.List.{length-map}
use Rattle.std.proofs.lemmas.List.Elements.{filter-append}
use Rattle.am_alert.specs.declared.alert.Alert.{Alert}
use Rattle.am_segment.specs.Segments.{KeyView}
use Rattle.am_cast.specs.declared.views.Account.{Account}
use Rattle.am_cast.specs.declared.views.Tail.{Tail}
use Rattle.am_cast.specs.Rule.{idle}
use Rattle.am_cast.specs.Seats.{account_of}
use Rattle.am_cast.specs.Writers.{StaysAs, SameAdmission, IsCutAs}
use Rattle.am_store.specs.declared.call.Call.{Call}
use Rattle.am_store.specs.declared.lanes.OpenLane.{OpenLane}
use Rattle.am_store.specs.Journal.{JournalView, with_call, call_count, until, closes, is_closed, is_open, open_after, lefts_of, IsOpenSubscription, MayFollow}
use Rattle.am_store.specs.Stored.{Update, updates, updates_of}
use Rattle.am_store.specs.Broadcast.{broadcast, batches_of, items_of, due}
use Rattle.am_store.specs.LogLimits.{IsWithinLogLimits}
use Rattle.am_store.specs.Lanes.{lane_at, open_count, IsItsOpening}
use Rattle.am_store.specs.Pages.{Pages, book_of, AgreesWithJournal}
use Rattle.am_store.proofs.Journals.{drop_front, due_last, closed_last}
use Rattle.am_store.proofs.Opens.{until_stays}
use Rattle.am_store.proofs.Growing.{silent}
use Rattle.am_store.proofs.Trimming.{kept_for}
use Rattle.am_provider.specs.declared.answers.Ended.{Ended}
use Rattle.am_provider.specs.Batches.{Batch, posts_in, sent_in}
use Rattle.am_provider.specs.BookView.{IsLaneOf, IsEndingOf, IsFaithful}
use Rattle.am_provider.specs.Histories.{sends}
use Rattle.am_provider.specs.Lefts.{left_by, left_ats}
use Rattle.am_provider.proofs.Lefts.{lefts_quiet, count_quiet}
use Rattle.am_provider.specs.inside.Shelves.{Shelf, view_of, pages_of, IsKeptLane, IsKeptBook}

-- ---- what is public of it

none_kept : (journal : JournalView) (account : Account (KeyView Alert) OpenLane) (o : Option OpenLane) → is_some o ≡ false → IsKeptLane journal account o → account.stand ≡ idle
none_kept journal account None e kept = kept
none_kept journal account (Some one) e kept = absurd (cc)

some_kept : (journal : JournalView) (account : Account (KeyView Alert) OpenLane) (o : Option OpenLane) → is_some o ≡ true → IsKeptLane journal account o → account.stand ≢ idle
some_kept journal account None e kept = absurd (cc)
some_kept journal account (Some one) e kept = kept.0

begun_kept : (journal : JournalView) (account : Account (KeyView Alert) OpenLane) (gone lane : ℕ) (o : Option OpenLane) → is_some o ≡ true → IfSome o (IsItsOpening gone journal lane) → IsKeptLane journal account o
    → (at : ℕ) × IsOpenSubscription journal lane at × (account.start ≤ account.known)
begun_kept journal account gone lane None e its kept = absurd (cc)
begun_kept journal account gone lane (Some one) e its kept = (one.at, its.given, kept.3)

this_kept : (journal : JournalView) (account : Account (KeyView Alert) OpenLane) (o : Option OpenLane) (one : OpenLane) → o ≡ Some one → IsKeptLane journal account o
    → (account.note ≡ Some (record { at = one.at; opening = Rattle.am_store.specs.Stored.stored (updates (until journal one.at)) })) × (account.start ≡ journal.places + length (broadcast (until journal one.at)))
this_kept journal account o one here kept =
    let own = subst (IsKeptLane journal account) here kept in (own.1, own.2)

lane_of : (shelf : Shelf) (counted places lane : ℕ) → lane < 8 → IsKeptBook shelf counted places → IsLaneOf (view_of shelf) lane
lane_of shelf counted places lane small kept =
    let journal = shelf.journal.journal in
    let flag = kept.pages.lanes lane small in
    let own = kept.lanes lane small in
    record {
      shut = λ no. none_kept journal (account_of shelf.log lane) (lane_at shelf.lanes lane) (flag ∙ no) own;
      given = λ yes. some_kept journal (account_of shelf.log lane) (lane_at shelf.lanes lane) (flag ∙ yes) own;
      begun = λ yes. begun_kept journal (account_of shelf.log lane) shelf.journal.gone lane (lane_at shelf.lanes lane) (flag ∙ yes) (kept.pages.openings lane) own;
      start = λ at of.
          let one = kept_for (pages_of shelf) lane at kept.pages of in
          (this_kept journal (account_of shelf.log lane) (lane_at shelf.lanes lane) one.0 one.1.0 own).1
          ∙ ap (λ n. journal.places + length (broadcast (until journal n))) one.1.1;
      note = λ at of.
          let one = kept_for (pages_of shelf) lane at kept.pages of in
          (this_kept journal (account_of shelf.log lane) (lane_at shelf.lanes lane) one.0 one.1.0 own).0
          ∙ ap (λ n. Some (record { at = n; opening = Rattle.am_store.specs.Stored.stored (updates (until journal n)) })) one.1.1;
    }

pub faithful : (shelf : Shelf) (counted places : ℕ) → IsKeptBook shelf counted places → IsFaithful (view_of shelf)
faithful shelf counted places kept = record {
  journal = kept.pages.kept;
  posts = kept.posts;
  closed = kept.pages.closed;
  lanes = λ lane small. lane_of shelf counted places lane small kept;
  endings = kept.endings;
  lefts = kept.lefts;
  ends = kept.ends;
}

-- ---- the posts of the log

pub posts_grown : (journal : JournalView) (old new : List Batch) (c : Call) → drop journal.places (posts_in old) ≡ filter sends journal.calls → journal.places ≤ length old
    → posts_in new ≡ posts_in old ++ filter sends (c ∷ []) → drop journal.places (posts_in new) ≡ filter sends (journal.calls ++ c ∷ [])
posts_grown journal old new c was low grown =
    let within : journal.places ≤ length (posts_in old) = omega (arith, low, length-map old (λ (b : Batch). b.post)) in
    ap (drop journal.places) grown
    ∙ (drop_front (posts_in old) (filter sends (c ∷ [])) journal.places within
    ∙ (ap (λ xs. xs ++ filter sends (c ∷ [])) was ∙ sym (filter-append sends journal.calls (c ∷ []))))

-- ---- the endings

pub ending_grown : (journal : JournalView) (c : Call) (e : Ended) → MayFollow journal c → IsEndingOf journal e → IsEndingOf (with_call journal c) e
ending_grown journal c e may of =
    let more = items_of (batches_of (updates journal) c) in
    let grown : due (with_call journal c) e.at ≡ due journal e.at ++ more = due_last journal c e.at of.high in
    let long : length (due (with_call journal c) e.at) ≡ length (due journal e.at) + length more = ap length grown ∙ length-append (due journal e.at) more in
    let calls : length (journal.calls ++ c ∷ []) ≡ length journal.calls + 1 = length-append journal.calls (c ∷ []) in
    record {
      within = omega (arith, of.within, long);
      complete = λ told.
          let quiet : length more ≡ 0 = ap (λ batches. length (items_of batches)) (silent (updates journal) journal c (of.closed told) may) in
          omega (arith, of.complete told, long, quiet);
      closed = λ told. closed_last journal c ∙ ap (λ b. b || closes c) (of.closed told);
      low = of.low;
      high = omega (arith, of.high, calls);
    }

pub endings_grown : (journal : JournalView) (c : Call) (endings : List Ended) → MayFollow journal c → All (IsEndingOf journal) endings → All (IsEndingOf (with_call journal c)) endings
endings_grown journal c endings may all = λ k d h. ending_grown journal c _ may (all k d h)

-- ---- the lanes

-- the account of a lane whose admission goes on
pub record GoesOnAs (was is : Account (KeyView Alert) OpenLane) : Type 0 where
  pub note : is.note ≡ was.note
  pub start : is.start ≡ was.start
  pub shut : was.stand ≡ idle → is.stand ≡ idle
  pub given : was.stand ≢ idle → is.stand ≢ idle
  pub low : was.start ≤ was.known → is.start ≤ is.known

pub same_account : (was is : Account (KeyView Alert) OpenLane) → is ≡ was → GoesOnAs was is
same_account was is same = record {
  note = ap (λ (a : Account (KeyView Alert) OpenLane). a.note) same;
  start = ap (λ (a : Account (KeyView Alert) OpenLane). a.start) same;
  shut = λ e. ap (λ (a : Account (KeyView Alert) OpenLane). a.stand) same ∙ e;
  given = λ ne e. ne (sym (ap (λ (a : Account (KeyView Alert) OpenLane). a.stand) same) ∙ e);
  low = subst (λ (a : Account (KeyView Alert) OpenLane). a.start ≤ a.known) (sym same);
}

pub stays_as : (was is : Account (KeyView Alert) OpenLane) → StaysAs was is → GoesOnAs was is
stays_as was is stays = record {
  note = stays.0.1;
  start = stays.0.2;
  shut = λ e. dite (ℕ_discrete is.stand was.stand) (λ same. same ∙ e) (λ other. absurd (omega (arith, (stays.1.0 other).0, e)));
  given = λ ne e. dite (ℕ_discrete is.stand was.stand) (λ same. ne (sym same ∙ e)) (λ other. absurd (omega (arith, (stays.1.0 other).1, e)));
  low = λ h. omega (arith, stays.0.2, stays.0.4, h);
}

pub cut_as : (n places : ℕ) (was is : Account (KeyView Alert) OpenLane) (bit : Bool) → SameAdmission was is → IsCutAs n places was is bit → GoesOnAs was is
cut_as n places was is true same cut = record {
  note = same.1;
  start = same.2;
  shut = λ e. absurd (let l = cut.0 in omega (arith, e));
  given = λ ne e. let k = cut.1 in omega arith;
  low = λ h. omega (arith, same.2, same.4, h);
}
cut_as n places was is false same on = stays_as was is (same, on)

pub goes_on_twice : (was between is : Account (KeyView Alert) OpenLane) → GoesOnAs was between → GoesOnAs between is → GoesOnAs was is
goes_on_twice was between is first second = record {
  note = second.note ∙ first.note;
  start = second.start ∙ first.start;
  shut = λ e. second.shut (first.shut e);
  given = λ ne. second.given (first.given ne);
  low = λ h. second.low (first.low h);
}

pub lane_stays : (gone : ℕ) (journal : JournalView) (c : Call) (lane : ℕ) (o : Option OpenLane) (was is : Account (KeyView Alert) OpenLane) → GoesOnAs was is → IfSome o (IsItsOpening gone journal lane)
    → IsKeptLane journal was o → IsKeptLane (with_call journal c) is o
lane_stays gone journal c lane None was is on its kept = on.shut kept
lane_stays gone journal c lane (Some one) was is on its kept =
    (on.given kept.0, on.note ∙ (kept.1 ∙ ap (λ j. Some (record { at = one.at; opening = Rattle.am_store.specs.Stored.stored (updates j) })) (sym (until_stays journal c lane one.at its.given))), on.start ∙ (kept.2 ∙ ap (λ j. journal.places + length (broadcast j)) (sym (until_stays journal c lane one.at its.given))), on.low kept.3)

pub lanes_stay : (a b : Shelf) (counted places : ℕ) (c : Call) → IsKeptBook a counted places → b.lanes ≡ a.lanes → b.journal.journal ≡ with_call a.journal.journal c
    → ((lane : ℕ) → lane < 8 → GoesOnAs (account_of a.log lane) (account_of b.log lane))
    → (lane : ℕ) → lane < 8 → IsKeptLane b.journal.journal (account_of b.log lane) (lane_at b.lanes lane)
lanes_stay a b counted places c kept lanes journal on lane small =
    subst (λ ls. IsKeptLane b.journal.journal (account_of b.log lane) (lane_at ls lane)) (sym lanes)
    (subst (λ j. IsKeptLane j (account_of b.log lane) (lane_at a.lanes lane)) (sym journal)
    (lane_stays a.journal.gone a.journal.journal c lane (lane_at a.lanes lane) (account_of a.log lane) (account_of b.log lane) (on lane small) (kept.pages.openings lane) (kept.lanes lane small)))

-- ---- a call that no lane comes or goes by

pub kept_grown : (a b : Shelf) (counted more places room : ℕ) (c : Call) → IsKeptBook a counted places → AgreesWithJournal (pages_of b) → MayFollow a.journal.journal c
    → ((came : ℕ → Option ℕ) → left_by came c ≡ []) → b.journal.journal ≡ with_call a.journal.journal c → posts_in b.log.tail.log ≡ posts_in a.log.tail.log ++ filter sends (c ∷ [])
    → b.lanes ≡ a.lanes → ((lane : ℕ) → lane < 8 → GoesOnAs (account_of a.log lane) (account_of b.log lane))
    → b.endings ≡ a.endings → b.early ≡ a.early → more ≡ length b.log.tail.log → places ≤ room → IsKeptBook b more room
kept_grown a b counted more places room c kept pages may quiet journal posts lanes on endings early total roomy =
    let old = a.journal.journal in
    let low : old.places ≤ length (sent_in a.log.tail.log) = kept.pages.kept.places in
    let few : length (sent_in a.log.tail.log) ≡ length a.log.tail.log = length-map a.log.tail.log (λ (b : Batch). Rattle.am_cast.specs.Keys.batch_items b) in
    let grown = posts_grown old a.log.tail.log b.log.tail.log c kept.posts (omega arith) posts in
    record {
      pages = pages;
      posts = subst (λ (j : JournalView). drop j.places (posts_in b.log.tail.log) ≡ filter sends j.calls) (sym journal) grown;
      lanes = lanes_stay a b counted places c kept lanes journal on;
      endings = subst (All (IsEndingOf b.journal.journal)) (sym endings) (subst (λ j. All (IsEndingOf j) a.endings) (sym journal) (endings_grown old c a.endings may kept.endings));
      lefts = ap (map (λ (e : Ended). e.at)) endings ∙ (kept.lefts ∙ (lefts_quiet old c quiet ∙ sym (ap left_ats journal)));
      ends = omega (arith, kept.ends, early, ap length endings, ap lefts_of journal, count_quiet old c quiet);
      total = total;
      room = let r = kept.room in omega (arith, ap length endings, ap Rattle.am_store.specs.Lanes.open_count lanes);
    }

-- ---- nothing but room and what the log knows of its lanes

agrees_alike : (a b : Pages) → AgreesWithJournal a → b.journal.journal ≡ a.journal.journal → b.journal.gone ≡ a.journal.gone → a.journal.room ≤ b.journal.room
    → b.stored ≡ a.stored → b.sent ≡ a.sent → b.posts ≡ a.posts → b.lanes ≡ a.lanes → b.closed ≡ a.closed → AgreesWithJournal b
agrees_alike a b sound journal gone roomy stored sent posts lanes closed =
    let alike : book_of b ≡ book_of a = ap (λ j. record { stored = b.stored; journal = j; log = b.sent }) journal ∙ (ap (λ s. record { stored = s; journal = a.journal.journal; log = b.sent }) stored ∙ ap (λ l. record { stored = a.stored; journal = a.journal.journal; log = l }) sent) in
    let opens : open_count b.lanes ≡ open_count a.lanes = ap open_count lanes in
    let ends : cond {A = ℕ} b.closed 0 1 ≡ cond {A = ℕ} a.closed 0 1 = ap (λ (c : Bool). cond {A = ℕ} c 0 1) closed in
    record {
      kept = subst Rattle.am_store.specs.PlainBook.FollowsJournal (sym alike) sound.kept;
      eight = ap length lanes ∙ sound.eight;
      closed = closed ∙ (sound.closed ∙ sym (ap is_closed journal));
      lanes = λ lane small. ap (λ ls. is_some (lane_at ls lane)) lanes ∙ (sound.lanes lane small ∙ sym (ap (λ j. is_open j lane) journal));
      openings = λ lane. subst (λ ls. IfSome (lane_at ls lane) (IsItsOpening b.journal.gone b.journal.journal lane)) (sym lanes) (subst (λ j. IfSome (lane_at a.lanes lane) (IsItsOpening b.journal.gone j lane)) (sym journal) (subst (λ n. IfSome (lane_at a.lanes lane) (IsItsOpening n a.journal.journal lane)) (sym gone) (sound.openings lane)));
      posts = posts ∙ (sound.posts ∙ sym (ap Rattle.am_store.specs.Journal.posts_of journal));
      limits = subst IsWithinLogLimits (sym sent) sound.limits;
      room = omega (arith, sound.room);
    }

pub kept_alike : (a b : Shelf) (counted places : ℕ) → IsKeptBook a counted places → b.journal.journal ≡ a.journal.journal → b.journal.gone ≡ a.journal.gone
    → a.journal.room ≤ b.journal.room → b.stored ≡ a.stored → b.log.tail ≡ a.log.tail
    → ((lane : ℕ) → lane < 8 → GoesOnAs (account_of a.log lane) (account_of b.log lane)) → b.lanes ≡ a.lanes → b.posts ≡ a.posts → b.endings ≡ a.endings → b.early ≡ a.early → IsKeptBook b counted places
kept_alike a b counted places kept journal gone roomy stored tail on lanes posts endings early = record {
  pages = agrees_alike (pages_of a) (pages_of b) kept.pages journal gone roomy stored (ap (λ (t : Tail Batch). sent_in t.log) tail) posts lanes (ap (λ (t : Tail Batch). t.closed) tail);
  posts = ap (λ (j : JournalView). drop j.places (posts_in b.log.tail.log)) journal ∙ (ap (λ (t : Tail Batch). drop a.journal.journal.places (posts_in t.log)) tail ∙ (kept.posts ∙ sym (ap (λ (j : JournalView). filter sends j.calls) journal)));
  lanes = λ lane small.
      subst (λ ls. IsKeptLane b.journal.journal (account_of b.log lane) (lane_at ls lane)) (sym lanes)
      (subst (λ j. IsKeptLane j (account_of b.log lane) (lane_at a.lanes lane)) (sym journal)
      (still_kept a.journal.journal (lane_at a.lanes lane) (account_of a.log lane) (account_of b.log lane) (on lane small) (kept.lanes lane small)));
  endings = subst (All (IsEndingOf b.journal.journal)) (sym endings) (subst (λ j. All (IsEndingOf j) a.endings) (sym journal) kept.endings);
  lefts = ap (map (λ (e : Ended). e.at)) endings ∙ (kept.lefts ∙ sym (ap left_ats journal));
  ends = omega (arith, kept.ends, early, ap length endings, ap lefts_of journal);
  total = kept.total ∙ sym (ap (λ (t : Tail Batch). length t.log) tail);
  room = let r = kept.room in omega (arith, ap length endings, ap open_count lanes);
}
  where
    still_kept : (journal : JournalView) (o : Option OpenLane) (was is : Account (KeyView Alert) OpenLane) → GoesOnAs was is → IsKeptLane journal was o → IsKeptLane journal is o
    still_kept journal None was is on kept = on.shut kept
    still_kept journal (Some one) was is on kept = (on.given kept.0, on.note ∙ kept.1, on.start ∙ kept.2, on.low kept.3)
