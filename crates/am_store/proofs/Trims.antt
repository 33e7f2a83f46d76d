-- A trimmed journal gives the same as the whole one.
use Rattle.std.proofs.Common.{◌≡◌, ℕ, ◌+◌, ◌-◌, ◌≤◌, true, false, not, ◌&&◌, cond, filter, List, [], ◌∷◌, ◌++◌, length, take, drop, None, Some, refl, sym, ap, subst, ◌∙◌, arith, length-append, length-drop}
use Rattle.std.specs.List.{slice_get}
use Rattle.std.proofs.lemmas.List.{append_assoc, append-nil, take-append-drop}
use Rattle.std.proofs.Math.Seq.{drop-append_seam}
use Rattle.am_alert.specs.declared.alert.Alert.{Alert}
use Rattle.am_alert.specs.Merging.{is_resolved_at}
use Rattle.am_labels.specs.LabelSets.{same_labels}
use Rattle.am_labels.specs.LabelLaws.{labels_equiv}
use Rattle.am_store.specs.declared.call.Call.{Call}
use Rattle.am_store.specs.declared.call.Call.TheVariants.{Posted, Collected, Subscribed, Left, Closed}
use Rattle.am_store.specs.Journal.{JournalView, first_calls, until, since, is_closed, posts_of, lefts_of, is_open, IsLowestIdle, MayFollow, IsOpenSubscription, IsLegal}
use Rattle.am_store.specs.PlainBook.{PlainBook, FollowsJournal}
use Rattle.am_store.specs.Stored.{Update, Report, Collect, updates_of, first_reports, updates, stored}
use Rattle.am_store.specs.Broadcast.{batches_of, broadcast_from, broadcast, due}
use Rattle.am_store.specs.AlertList.{lookup, absorb_into, absent, AreDistinct, batch_by_list}
use Rattle.am_store.specs.Trims.{AreBeforeOpen, IsTrimmed}
use Rattle.am_store.specs.Laws.{StartsWithBase, TrimmedGivesTheSame, TrimmedGrows, TrimmedTwice, OneTrim}
use Rattle.am_store.proofs.Kept.{or_false}
use Rattle.am_store.proofs.Journals.{get_drop, drop_front, drop_twice, take_parts, closes_append, open_append, posts_append, lefts_append, updates_append, cast_append, first_stays, or_assoc}
use Rattle.am_store.proofs.Stored.{by_bool, agrees, absorb_into_absent, stored_report, stored_collect, batch_of_post}

-- ---- what comes after rests on what is stored before alone

same_one : (a b : List Update) (s : Update) → stored a ≡ stored b → stored (a ++ s ∷ []) ≡ stored (b ++ s ∷ [])
same_one a b (Report now new) e = stored_report a now new ∙ (ap (absorb_into now new) e ∙ sym (stored_report b now new))
same_one a b (Collect now) e = stored_collect a now ∙ (ap (filter (λ alert. not (is_resolved_at now alert))) e ∙ sym (stored_collect b now))

pub same_stored : (a b ss : List Update) → stored a ≡ stored b → stored (a ++ ss) ≡ stored (b ++ ss)
same_stored a b [] e = ap stored (append-nil a) ∙ (e ∙ sym (ap stored (append-nil b)))
same_stored a b (s ∷ ss) e = let rest = same_stored (a ++ s ∷ []) (b ++ s ∷ []) ss in grind (arith, append_assoc, same_one)

same_batch : (a b : List Update) (c : Call) → stored a ≡ stored b → batches_of a c ≡ batches_of b c
same_batch a b (Posted now []) e = refl
same_batch a b (Posted now (new ∷ news)) e =
    ap (λ batch. batch ∷ []) (batch_of_post a now (new ∷ news) ∙ (ap (batch_by_list now (new ∷ news)) e ∙ sym (batch_of_post b now (new ∷ news))))
same_batch a b (Collected now) e = refl
same_batch a b (Subscribed lane) e = refl
same_batch a b (Left lane) e = refl
same_batch a b Closed e = refl

pub same_sent : (a b : List Update) (calls : List Call) → stored a ≡ stored b → broadcast_from a calls ≡ broadcast_from b calls
same_sent a b [] e = refl
same_sent a b (c ∷ calls) e =
    ap (λ batches. batches ++ broadcast_from (a ++ updates_of c) calls) (same_batch a b c e)
    ∙ ap (λ rest. batches_of b c ++ rest) (same_sent (a ++ updates_of c) (b ++ updates_of c) calls (same_stored a b (updates_of c) e))

-- ---- a stored list told again is itself

absent_from : (front : List Alert) (alert : Alert) (rest : List Alert) → AreDistinct (front ++ alert ∷ rest) → lookup alert.labels front ≡ None
absent_from [] alert rest d = refl
absent_from (a ∷ front) alert rest d =
    ap (λ b. cond b (Some a) (lookup alert.labels front)) (labels_equiv.symm alert.labels a.labels ∙ other front d.0)
    ∙ absent_from front alert rest d.1
  where
    other : (front : List Alert) → absent a.labels (front ++ alert ∷ rest) ≡ true → same_labels a.labels alert.labels ≡ false
    other [] e =
        by_bool (same_labels a.labels alert.labels)
        (λ t. let no : false ≡ true = sym (ap (λ b. not b && absent a.labels rest) t) ∙ e in (cc))
        (λ f. f)
    other (x ∷ front) e =
        by_bool {P = same_labels a.labels alert.labels ≡ false} (same_labels a.labels x.labels)
        (λ t. let no : false ≡ true = sym (ap (λ b. not b && absent a.labels (front ++ alert ∷ rest)) t) ∙ e in (cc))
        (λ f. other front (sym (ap (λ b. not b && absent a.labels (front ++ alert ∷ rest)) f) ∙ e))

told_again : (before : List Update) (front alerts : List Alert) → stored before ≡ front → AreDistinct (front ++ alerts) → stored (before ++ first_reports alerts) ≡ front ++ alerts
told_again before front [] e d = ap stored (append-nil before) ∙ (e ∙ sym (append-nil front))
told_again before front (alert ∷ alerts) e d =
    let rest = told_again (before ++ Report 0 alert ∷ []) (front ++ alert ∷ []) alerts in
    grind (arith, stored_report, absorb_into_absent, absent_from, append_assoc)

pub starts_with_base : StartsWithBase
starts_with_base alerts d = told_again [] [] alerts refl d

-- what was stored, told again, is stored
pub told_stored : (ss : List Update) → stored (first_reports (stored ss)) ≡ stored ss
told_stored ss = starts_with_base (stored ss) (agrees ss).distinct

-- ---- a trimmed journal and more calls

-- the whole journal up to the trim, and more calls
grown : JournalView → ℕ → List Call → JournalView
grown whole count more = record whole { calls = take count whole.calls ++ more }

-- the trimmed journal with other calls
after : JournalView → List Call → JournalView
after trimmed more = record trimmed { calls = more }

module _ (whole trimmed : JournalView) (count : ℕ) (of : IsTrimmed whole count trimmed) (more : List Call) where
  -- what both begin with
  base_same : stored (first_reports trimmed.store) ≡ stored (updates (first_calls count whole))
  base_same = ap (λ alerts. stored (first_reports alerts)) of.store ∙ told_stored (updates (first_calls count whole))

  stored_same : stored (updates (after trimmed more)) ≡ stored (updates (grown whole count more))
  unfolding after grown
  stored_same = grind (arith, same_stored, base_same, updates_append, labels_equiv, append_assoc, append-nil)

  sent_same : broadcast (grown whole count more) ≡ broadcast (first_calls count whole) ++ broadcast (after trimmed more)
  unfolding after grown
  sent_same = grind (arith, cast_append, same_sent, base_same)

  closed_same : is_closed (after trimmed more) ≡ is_closed (grown whole count more)
  unfolding after grown
  closed_same = grind (arith, or_assoc, closes_append)

  open_same : (lane : ℕ) → is_open (after trimmed more) lane ≡ is_open (grown whole count more) lane
  unfolding after grown
  open_same lane = grind (arith, open_append)

  posts_same : posts_of (after trimmed more) ≡ posts_of (grown whole count more)
  unfolding after grown
  posts_same = omega (arith, of.posts, posts_append (take count whole.calls) more)

  lefts_same : lefts_of (after trimmed more) ≡ lefts_of (grown whole count more)
  unfolding after grown
  lefts_same = omega (arith, of.lefts, lefts_append (take count whole.calls) more)

-- all calls
all_grown : (whole trimmed : JournalView) (count : ℕ) → IsTrimmed whole count trimmed → grown whole count trimmed.calls ≡ whole
unfolding grown
all_grown whole trimmed count of = grind (arith, take-append-drop)

-- the first calls
first_grown : (whole trimmed : JournalView) (count k : ℕ) → IsTrimmed whole count trimmed → grown whole count (take k trimmed.calls) ≡ first_calls (count + k) whole
unfolding grown
first_grown whole trimmed count k of = grind (arith, take_parts)

module _ (whole trimmed : JournalView) (count : ℕ) (of : IsTrimmed whole count trimmed) where
  pub trimmed_stored : stored (updates trimmed) ≡ stored (updates whole)
  unfolding after
  trimmed_stored = stored_same whole trimmed count of trimmed.calls ∙ ap (λ j. stored (updates j)) (all_grown whole trimmed count of)

  pub trimmed_sent : broadcast whole ≡ broadcast (first_calls count whole) ++ broadcast trimmed
  unfolding after
  trimmed_sent = ap broadcast (sym (all_grown whole trimmed count of)) ∙ sent_same whole trimmed count of trimmed.calls

  pub trimmed_closed : is_closed trimmed ≡ is_closed whole
  unfolding after
  trimmed_closed = closed_same whole trimmed count of trimmed.calls ∙ ap is_closed (all_grown whole trimmed count of)

  pub trimmed_open : (lane : ℕ) → is_open trimmed lane ≡ is_open whole lane
  unfolding after
  trimmed_open lane = open_same whole trimmed count of trimmed.calls lane ∙ ap (λ j. is_open j lane) (all_grown whole trimmed count of)

  pub trimmed_posts : posts_of trimmed ≡ posts_of whole
  unfolding after
  trimmed_posts = posts_same whole trimmed count of trimmed.calls ∙ ap posts_of (all_grown whole trimmed count of)

  pub trimmed_lefts : lefts_of trimmed ≡ lefts_of whole
  unfolding after
  trimmed_lefts = lefts_same whole trimmed count of trimmed.calls ∙ ap lefts_of (all_grown whole trimmed count of)

  -- the same after so many of its first calls
  pub first_stored : (k : ℕ) → stored (updates (first_calls k trimmed)) ≡ stored (updates (first_calls (count + k) whole))
  unfolding after
  first_stored k = stored_same whole trimmed count of (take k trimmed.calls) ∙ ap (λ j. stored (updates j)) (first_grown whole trimmed count k of)

  pub first_sent : (k : ℕ) → broadcast (first_calls (count + k) whole) ≡ broadcast (first_calls count whole) ++ broadcast (first_calls k trimmed)
  unfolding after
  first_sent k = ap broadcast (sym (first_grown whole trimmed count k of)) ∙ sent_same whole trimmed count of (take k trimmed.calls)

  pub first_closed : (k : ℕ) → is_closed (first_calls k trimmed) ≡ is_closed (first_calls (count + k) whole)
  unfolding after
  first_closed k = closed_same whole trimmed count of (take k trimmed.calls) ∙ ap is_closed (first_grown whole trimmed count k of)

  pub first_open : (k lane : ℕ) → is_open (first_calls k trimmed) lane ≡ is_open (first_calls (count + k) whole) lane
  unfolding after
  first_open k lane = open_same whole trimmed count of (take k trimmed.calls) lane ∙ ap (λ j. is_open j lane) (first_grown whole trimmed count k of)

  pub first_posts : (k : ℕ) → posts_of (first_calls k trimmed) ≡ posts_of (first_calls (count + k) whole)
  unfolding after
  first_posts k = posts_same whole trimmed count of (take k trimmed.calls) ∙ ap posts_of (first_grown whole trimmed count k of)

  pub first_lefts : (k : ℕ) → lefts_of (first_calls k trimmed) ≡ lefts_of (first_calls (count + k) whole)
  unfolding after
  first_lefts k = lefts_same whole trimmed count of (take k trimmed.calls) ∙ ap lefts_of (first_grown whole trimmed count k of)

  -- where a call stands in both
  pub moved : (at : ℕ) → trimmed.before ≤ at → count + (at - trimmed.before) ≡ at - whole.before
  moved at h = omega (arith, of.before)

  pub until_stored : (at : ℕ) → trimmed.before ≤ at → stored (updates (until trimmed at)) ≡ stored (updates (until whole at))
  until_stored at h = first_stored (at - trimmed.before) ∙ ap (λ n. stored (updates (first_calls n whole))) (moved at h)

  pub since_same : (at : ℕ) → trimmed.before ≤ at → since trimmed at ≡ since whole at
  since_same at h = grind (arith, drop_twice, moved)

  pub due_same : (at : ℕ) → trimmed.before ≤ at → due trimmed at ≡ due whole at
  due_same at h = grind (arith, until_stored, same_sent, since_same)

-- ---- the same calls may follow

lowest_same : (a b : JournalView) (lane : ℕ) → ((lane : ℕ) → is_open a lane ≡ is_open b lane) → IsLowestIdle a lane → IsLowestIdle b lane
lowest_same a b lane same low = grind arith

pub may_same : (a b : JournalView) → is_closed a ≡ is_closed b → ((lane : ℕ) → is_open a lane ≡ is_open b lane) → (c : Call) → MayFollow a c → MayFollow b c
may_same a b closed lanes (Posted now alerts) may = sym closed ∙ may
may_same a b closed lanes (Collected now) may = may
may_same a b closed lanes (Subscribed lane) may = (sym closed ∙ may.0, lowest_same a b lane lanes may.1)
may_same a b closed lanes (Left lane) may = sym (lanes lane) ∙ may
may_same a b closed lanes Closed may = sym closed ∙ may

pub trimmed_gives_the_same : TrimmedGivesTheSame
trimmed_gives_the_same whole trimmed count within of =
    let front = broadcast (first_calls count whole) in
    let places : trimmed.places - whole.places ≡ length front = omega (arith, of.places) in
    record {
      stored = trimmed_stored whole trimmed count of;
      lanes = trimmed_open whole trimmed count of;
      closed = trimmed_closed whole trimmed count of;
      posts = trimmed_posts whole trimmed count of;
      lefts = trimmed_lefts whole trimmed count of;
      sent = sym (ap (λ n. drop n (broadcast whole)) places ∙ (ap (drop (length front)) (trimmed_sent whole trimmed count of) ∙ drop-append_seam front (broadcast trimmed)));
      due = due_same whole trimmed count of;
      follow = λ call. (
        may_same trimmed whole (trimmed_closed whole trimmed count of) (trimmed_open whole trimmed count of) call,
        may_same whole trimmed (sym (trimmed_closed whole trimmed count of)) (λ lane. sym (trimmed_open whole trimmed count of lane)) call,
      );
    }

pub trimmed_grows : TrimmedGrows
trimmed_grows whole trimmed count call within of =
    let same = sym (first_stays whole call count within) in
    record {
      before = of.before;
      places = of.places ∙ ap (λ j. whole.places + length (broadcast j)) same;
      posts = of.posts ∙ ap posts_of same;
      lefts = of.lefts ∙ ap lefts_of same;
      store = of.store ∙ ap (λ j. stored (updates j)) same;
      lanes = λ lane. of.lanes lane ∙ ap (λ j. is_open j lane) same;
      closed = of.closed ∙ ap is_closed same;
      calls = ap (λ calls. calls ++ call ∷ []) of.calls ∙ sym (drop_front whole.calls (call ∷ []) count within);
    }

pub trimmed_twice : TrimmedTwice
trimmed_twice whole once twice first more fits fits_more a b = record {
  before = omega (arith, a.before, b.before);
  places = omega (arith, a.places, b.places, ap length (first_sent whole once first a more), length-append (broadcast (first_calls first whole)) (broadcast (first_calls more once)));
  posts = b.posts ∙ first_posts whole once first a more;
  lefts = b.lefts ∙ first_lefts whole once first a more;
  store = b.store ∙ first_stored whole once first a more;
  lanes = λ lane. b.lanes lane ∙ first_open whole once first a more lane;
  closed = b.closed ∙ first_closed whole once first a more;
  calls = b.calls ∙ (ap (drop more) a.calls ∙ drop_twice first more whole.calls);
}

-- ---- how much a trim drops

no_more : (journal : JournalView) (count other : ℕ) → AreBeforeOpen journal count → AreBeforeOpen journal other → other ≤ count
no_more journal count other a b = grind arith

pub one_trim : OneTrim
one_trim journal count other a b = omega (arith, no_more journal count other a b, no_more journal other count b a)

-- ---- a trimmed Book

pub trimmed_legal : (whole trimmed : JournalView) (count : ℕ) → IsTrimmed whole count trimmed → IsLegal whole → IsLegal trimmed
trimmed_legal whole trimmed count of legal at call e =
    let here : slice_get whole.calls (count + at) ≡ Some call = sym (get_drop count whole.calls at) ∙ (ap (λ calls. slice_get calls at) (sym of.calls) ∙ e) in
    may_same (first_calls (count + at) whole) (first_calls at trimmed)
    (sym (first_closed whole trimmed count of at)) (λ lane. sym (first_open whole trimmed count of at lane)) call
    (legal (count + at) call here)

pub open_trimmed : (whole trimmed : JournalView) (count lane at : ℕ) → IsTrimmed whole count trimmed → trimmed.before ≤ at → IsOpenSubscription whole lane at → IsOpenSubscription trimmed lane at
open_trimmed whole trimmed count lane at of h opened = grind (arith, get_drop, moved, since_same)

-- how many batches there were by a call is the same in both
pub sent_until : (whole trimmed : JournalView) (count at : ℕ) → IsTrimmed whole count trimmed → trimmed.before ≤ at
    → trimmed.places + length (broadcast (until trimmed at)) ≡ whole.places + length (broadcast (until whole at))
sent_until whole trimmed count at of h =
    let both : length (broadcast (first_calls (count + (at - trimmed.before)) whole)) ≡ length (broadcast (first_calls count whole)) + length (broadcast (first_calls (at - trimmed.before) trimmed)) =
    ap length (first_sent whole trimmed count of (at - trimmed.before)) ∙ length-append (broadcast (first_calls count whole)) (broadcast (first_calls (at - trimmed.before) trimmed)) in
    grind (arith)

module _ (old new : PlainBook) (count : ℕ) (of : IsTrimmed old.journal count new.journal) (log : new.log ≡ old.log) where
  pub follows_trimmed : new.stored ≡ old.stored → FollowsJournal old → FollowsJournal new
  follows_trimmed stored kept =
      let front = broadcast (first_calls count old.journal) in
      let sent = trimmed_sent old.journal new.journal count of in
      let all : length old.log - old.journal.places ≡ length front + length (broadcast new.journal) =
      sym (length-drop old.journal.places old.log) ∙ (ap length (kept.log ∙ sent) ∙ length-append front (broadcast new.journal)) in
      record {
        stored = stored ∙ (kept.stored ∙ sym (trimmed_stored old.journal new.journal count of));
        log = ap (λ n. drop n new.log) of.places
            ∙ (ap (drop (old.journal.places + length front)) log
            ∙ (sym (drop_twice old.journal.places (length front) old.log)
            ∙ (ap (drop (length front)) (kept.log ∙ sent) ∙ drop-append_seam front (broadcast new.journal))));
        places = omega (arith, of.places, all, ap length log, kept.places);
        base = subst AreDistinct (sym of.store) (agrees (updates (first_calls count old.journal))).distinct;
        legal = trimmed_legal old.journal new.journal count of kept.legal;
      }

-- a trim that drops nothing
pub none_trimmed : (journal : JournalView) → AreDistinct journal.store → IsTrimmed journal 0 journal
none_trimmed journal distinct = record {
  before = omega arith;
  places = omega arith;
  posts = omega arith;
  lefts = omega arith;
  store = sym (ap stored (append-nil (first_reports journal.store)) ∙ starts_with_base journal.store distinct);
  lanes = λ lane. refl;
  closed = sym (or_false journal.closed);
  calls = refl;
}
