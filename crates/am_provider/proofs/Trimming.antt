-- A Book's fields as its journal is trimmed.
use Rattle.std.proofs.Common.{◌≡◌, ◌≢◌, ℕ, zero, suc, ◌+◌, ◌-◌, ◌≤◌, Bool, true, false, cond, nat_le, List, [], ◌∷◌, ◌++◌, length, take, drop, map, filter, Option, None, Some, All, refl, sym, ap, subst, ◌∙◌, arith, length-drop, inl, inr}
use Rattle.std.specs.Option.{option_map, IfSome}
use Rattle.std.proofs.lemmas.List.{take-append-drop}
use Rattle.std.proofs.lemmas.List.Elements.{filter-append}
use Rattle.std.proofs.Math.Seq.{drop-append_seam}
use borrow.Author.Tests.{le-leb, lt-leb}
use Rattle.am_alert.specs.declared.alert.Alert.{Alert}
use Rattle.am_segment.specs.Segments.{KeyView}
use Rattle.am_cast.specs.declared.views.Account.{Account}
use Rattle.am_cast.specs.Seats.{account_of}
use Rattle.am_store.specs.declared.call.Call.{Call}
use Rattle.am_store.specs.declared.call.Call.TheVariants.{Posted, Collected, Subscribed, Left, Closed}
use Rattle.am_store.specs.declared.lanes.OpenLane.{OpenLane}
use Rattle.am_cast.specs.Rule.{idle}
use Rattle.am_store.specs.Journal.{JournalView, call_count, until, lefts_of}
use Rattle.am_provider.specs.Lefts.{left_ats}
use Rattle.am_store.specs.Stored.{Update, updates_of, first_reports, updates, stored}
use Rattle.am_store.specs.Broadcast.{broadcast, broadcast_from, due}
use Rattle.am_store.specs.Trims.{AreBeforeOpen, IsTrimmed}
use Rattle.am_store.specs.Lanes.{lane_at, open_count, all_subscribed_at, subscribed_at, IsItsOpening}
use Rattle.std.proofs.lemmas.Bool.{cases_lt}
use Rattle.am_store.proofs.Stored.{by_bool}
use Rattle.am_store.proofs.Journals.{drop_twice}
use Rattle.am_store.proofs.Trims.{sent_until, until_stored, trimmed_lefts, trimmed_gives_the_same}
use Rattle.am_store.proofs.Trimming.{as_many_open, at_same, sound_trimmed, sound_compacted, subscribed_same}
use Rattle.am_provider.specs.declared.answers.Ended.{Ended}
use Rattle.am_provider.specs.Batches.{LogView, posts_in, sent_in}
use Rattle.am_provider.specs.BookView.{IsEndingOf}
use Rattle.am_provider.specs.Histories.{sends}
use Rattle.am_provider.proofs.Lefts.{lefts_trimmed, ats_kept}
use Rattle.am_provider.specs.inside.Shelves.{Shelf, pages_of, IsKeptLane, IsKeptBook}

-- as many batches go out as calls send one
pub sent_each : (before : List Update) (calls : List Call) → length (broadcast_from before calls) ≡ length (filter sends calls)
sent_each before [] = refl
sent_each before (Posted now [] ∷ calls) = sent_each (before ++ updates_of (Posted now [])) calls
sent_each before (Posted now (alert ∷ alerts) ∷ calls) = ap suc (sent_each (before ++ updates_of (Posted now (alert ∷ alerts))) calls)
sent_each before (Collected now ∷ calls) = sent_each (before ++ updates_of (Collected now)) calls
sent_each before (Subscribed lane ∷ calls) = sent_each (before ++ updates_of (Subscribed lane)) calls
sent_each before (Left lane ∷ calls) = sent_each (before ++ updates_of (Left lane)) calls
sent_each before (Closed ∷ calls) = sent_each (before ++ updates_of Closed) calls

pub posts_trimmed : (old new : JournalView) (count : ℕ) (posts : List Call) → IsTrimmed old count new → drop old.places posts ≡ filter sends old.calls → drop new.places posts ≡ filter sends new.calls
posts_trimmed old new count posts of was =
    let front = filter sends (take count old.calls) in
    let rest = filter sends (drop count old.calls) in
    let parts : filter sends old.calls ≡ front ++ rest = ap (filter sends) (sym (take-append-drop count old.calls)) ∙ filter-append sends (take count old.calls) (drop count old.calls) in
    let places : new.places ≡ old.places + length front = of.places ∙ ap (λ n. old.places + n) (sent_each (first_reports old.store) (take count old.calls)) in
    ap (λ n. drop n posts) places ∙ (sym (drop_twice old.places (length front) posts) ∙ (ap (drop (length front)) (was ∙ parts) ∙ (drop-append_seam front rest ∙ ap (filter sends) (sym of.calls))))

-- ---- what a filter keeps

all_cons : {A : Type 0} (Q : A → Type 0) (x : A) (xs : List A) → Q x → All Q xs → All Q (x ∷ xs)
all_cons Q x xs own all zero d h = own
all_cons Q x xs own all (suc k) d h = all k d (omega arith)

pub filter_all : {A : Type 0} (q : A → Bool) (P Q : A → Type 0) (xs : List A) → ((x : A) → q x ≡ true → P x → Q x) → All P xs → All Q (filter q xs)
filter_all q P Q [] f all = λ k d h. absurd (omega arith)
filter_all q P Q (x ∷ xs) f all =
    let rest = filter_all q P Q xs f (λ k d h. all (suc k) d (omega arith)) in
    by_bool {P = All Q (filter q (x ∷ xs))} (q x)
    (λ t. subst (λ b. All Q (cond b (x ∷ filter q xs) (filter q xs))) (sym t) (all_cons Q x (filter q xs) (f x t (all 0 x (omega arith))) rest))
    (λ n. subst (λ b. All Q (cond b (x ∷ filter q xs) (filter q xs))) (sym n) rest)

pub filter_same : {A : Type 0} (q : A → Bool) (P : A → Type 0) (xs : List A) → ((x : A) → P x → q x ≡ true) → All P xs → filter q xs ≡ xs
filter_same q P [] f all = refl
filter_same q P (x ∷ xs) f all =
    ap (λ b. cond b (x ∷ filter q xs) (filter q xs)) (f x (all 0 x (omega arith)))
    ∙ ap (λ rest. x ∷ rest) (filter_same q P xs f (λ k d h. all (suc k) d (omega arith)))

le_true : (m n : ℕ) → nat_le m n ≡ true → m ≤ n
le_true m n t = elim (cases_lt n m) [ inl less ↦ absurd (let no : true ≡ false = sym t ∙ lt-leb m n less in cc) | inr le ↦ le ]

pub none_gone : (journal : JournalView) (endings : List Ended) → All (IsEndingOf journal) endings → filter (λ (e : Ended). nat_le journal.before e.at) endings ≡ endings
none_gone journal endings all = filter_same (λ (e : Ended). nat_le journal.before e.at) (IsEndingOf journal) endings (λ e of. le-leb journal.before e.at of.low) all

-- ---- a trim

ending_trimmed : (old new : JournalView) (count : ℕ) (e : Ended) → count ≤ length old.calls → IsTrimmed old count new → nat_le new.before e.at ≡ true → IsEndingOf old e → IsEndingOf new e
ending_trimmed old new count e within of late was =
    let same = trimmed_gives_the_same old new count within of in
    let h = le_true new.before e.at late in
    let owed : length (due new e.at) ≡ length (due old e.at) = ap length (same.due e.at h) in
    let calls : length new.calls ≡ length old.calls - count = ap length of.calls ∙ length-drop count old.calls in
    record {
      within = omega (arith, was.within, owed);
      complete = λ told. was.complete told ∙ sym owed;
      closed = λ told. same.closed ∙ was.closed told;
      low = h;
      high = omega (arith, was.high, calls, of.before, within);
    }

lane_trimmed : (gone : ℕ) (old new : JournalView) (count lane : ℕ) (account : Account (KeyView Alert) OpenLane) (o : Option OpenLane) → AreBeforeOpen old count → IsTrimmed old count new → IfSome o (IsItsOpening gone old lane)
    → IsKeptLane old account o → IsKeptLane new account o
lane_trimmed gone old new count lane account None fits of its kept = kept
lane_trimmed gone old new count lane account (Some one) fits of its kept =
    let h : new.before ≤ one.at = omega (arith, of.before, fits.kept lane one.at its.given) in
    (kept.0, kept.1 ∙ ap (λ opening. Some (record { at = one.at; opening = opening })) (sym (until_stored old new count of one.at h)), kept.2 ∙ sym (sent_until old new count one.at of h), kept.3)

pub kept_trimmed : (a b : Shelf) (counted places count : ℕ) → IsKeptBook a counted places → AreBeforeOpen a.journal.journal count → IsTrimmed a.journal.journal count b.journal.journal → a.journal.gone ≤ b.journal.gone
    → b.stored ≡ a.stored → b.log ≡ a.log → b.lanes ≡ a.lanes → b.posts ≡ a.posts → a.journal.room ≤ b.journal.room
    → b.endings ≡ filter (λ (e : Ended). nat_le b.journal.journal.before e.at) a.endings → length b.endings ≤ length a.endings
    → b.early + length b.endings ≡ a.early + length a.endings → IsKeptBook b counted places
kept_trimmed a b counted places count kept fits of gone stored log lanes posts room endings fewer ends =
    let old = a.journal.journal in
    let new = b.journal.journal in
    record {
      pages = sound_trimmed (pages_of a) (pages_of b) count kept.pages fits of gone stored (ap (λ (q : LogView). sent_in q.tail.log) log) lanes (ap (λ (q : LogView). q.tail.closed) log) posts room;
      posts = ap (λ (q : LogView). drop b.journal.journal.places (posts_in q.tail.log)) log ∙ posts_trimmed old new count (posts_in a.log.tail.log) of kept.posts;
      lanes = λ lane small.
          subst (λ (q : LogView). IsKeptLane new (account_of q lane) (lane_at b.lanes lane)) (sym log)
          (subst (λ ls. IsKeptLane new (account_of a.log lane) (lane_at ls lane)) (sym lanes)
          (lane_trimmed a.journal.gone old new count lane (account_of a.log lane) (lane_at a.lanes lane) fits of (kept.pages.openings lane) (kept.lanes lane small)));
      endings = subst (All (IsEndingOf new)) (sym endings) (filter_all (λ (e : Ended). nat_le b.journal.journal.before e.at) (IsEndingOf old) (IsEndingOf new) a.endings (λ e late was. ending_trimmed old new count e fits.within of late was) kept.endings);
      lefts = ap (map (λ (e : Ended). e.at)) endings ∙ (ats_kept b.journal.journal.before a.endings ∙ (ap (filter (nat_le b.journal.journal.before)) kept.lefts ∙ lefts_trimmed old new count of));
      ends = ends ∙ (kept.ends ∙ sym (trimmed_lefts old new count of));
      total = kept.total ∙ sym (ap (λ (q : LogView). length q.tail.log) log);
      room = let r = kept.room in omega (arith, fewer, ap Rattle.am_store.specs.Lanes.open_count lanes);
    }

pub kept_room : (a : Shelf) (counted places room : ℕ) → IsKeptBook a counted places → length a.endings + open_count a.lanes ≤ room → IsKeptBook a counted room
kept_room a counted places room kept roomy = record {
  pages = kept.pages;
  posts = kept.posts;
  lanes = kept.lanes;
  endings = kept.endings;
  lefts = kept.lefts;
  ends = kept.ends;
  total = kept.total;
  room = roomy;
}

-- ---- a compaction

lane_compacted : (journal : JournalView) (account : Account (KeyView Alert) OpenLane) (was is : Option OpenLane) → option_map subscribed_at is ≡ option_map subscribed_at was → IsKeptLane journal account was → IsKeptLane journal account is
lane_compacted journal account None None e kept = kept
lane_compacted journal account None (Some one) e kept = (cc)
lane_compacted journal account (Some one) None e kept = (cc)
lane_compacted journal account (Some one) (Some other) e kept =
    let same : one.at ≡ other.at = sym (at_same one other e) in
    subst (λ n. (account.stand ≢ idle) × (account.note ≡ Some (record { at = n; opening = stored (updates (until journal n)) })) × (account.start ≡ journal.places + length (broadcast (until journal n))) × (account.start ≤ account.known)) same kept

pub kept_compacted : (a b : Shelf) (counted places : ℕ) → IsKeptBook a counted places → b.journal.journal ≡ a.journal.journal → b.journal.gone ≡ call_count a.journal.journal → a.journal.room ≤ b.journal.room
    → b.stored ≡ a.stored → b.log ≡ a.log → b.posts ≡ a.posts → all_subscribed_at b.lanes ≡ all_subscribed_at a.lanes → b.endings ≡ a.endings → b.early ≡ a.early → IsKeptBook b counted places
kept_compacted a b counted places kept journal gone room stored log posts lanes endings early = record {
  pages = sound_compacted (pages_of a) (pages_of b) kept.pages journal gone room stored (ap (λ (q : LogView). sent_in q.tail.log) log) (ap (λ (q : LogView). q.tail.closed) log) posts lanes;
  posts = ap (λ (j : JournalView). drop j.places (posts_in b.log.tail.log)) journal ∙ (ap (λ (q : LogView). drop a.journal.journal.places (posts_in q.tail.log)) log ∙ (kept.posts ∙ sym (ap (λ (j : JournalView). filter sends j.calls) journal)));
  lanes = λ lane small.
      subst (λ (q : LogView). IsKeptLane b.journal.journal (account_of q lane) (lane_at b.lanes lane)) (sym log)
      (subst (λ j. IsKeptLane j (account_of a.log lane) (lane_at b.lanes lane)) (sym journal)
      (lane_compacted a.journal.journal (account_of a.log lane) (lane_at a.lanes lane) (lane_at b.lanes lane) (subscribed_same a.lanes b.lanes lanes lane) (kept.lanes lane small)));
  endings = subst (All (IsEndingOf b.journal.journal)) (sym endings) (subst (λ j. All (IsEndingOf j) a.endings) (sym journal) kept.endings);
  lefts = ap (map (λ (e : Ended). e.at)) endings ∙ (kept.lefts ∙ sym (ap left_ats journal));
  ends = omega (arith, kept.ends, early, ap length endings, ap lefts_of journal);
  total = kept.total ∙ sym (ap (λ (q : LogView). length q.tail.log) log);
  room = let r = kept.room in omega (arith, ap length endings, as_many_open a.lanes b.lanes lanes);
}
