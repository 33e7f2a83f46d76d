-- A Book's fields as each kind of call comes.
use Rattle.std.proofs.Common.{◌≡◌, ◌≢◌, ℕ, zero, suc, ◌+◌, ◌-◌, ◌*◌, ◌/◌, ◌%◌, ◌^◌, ◌<◌, ◌≤◌, Bool, true, false, cond, nat_eq, ◌||◌, ◌⊎◌, List, [], ◌∷◌, ◌++◌, length, take, drop, map, filter, set, Option, None, Some, All, refl, sym, ap, subst, ◌∙◌, arith, length-append, length-drop, inl, inr, ⊎_elim}
use mathlib.Core.List.{IsPrefix}
use Rattle.std.specs.Option.{is_some, IfSome, IsSome}
use Rattle.std.proofs.lemmas.List.{length-map, append-nil, append_assoc, map-append, drop-map, take_all, take-append-drop}
use Rattle.std.proofs.lemmas.List.Elements.{All-append}
use Rattle.std.proofs.lemmas.Bool.Decides.{eqb_tells}
use Rattle.am_alert.specs.declared.alert.Alert.{Alert}
use Rattle.am_alert.specs.declared.post.TheConstants.{MAX_ALERTS}
use Rattle.am_segment.specs.Segments.{KeyView}
use Rattle.am_cast.specs.declared.views.Account.{Account}
use Rattle.am_cast.specs.declared.views.Tail.{Tail}
use Rattle.am_cast.specs.declared.limits.TheConstants.{LONGEST_LOG}
use Rattle.am_cast.specs.Rule.{idle, live, cut, Sound}
use Rattle.am_cast.specs.Changes.{longer_tail, shut_tail, left}
use Rattle.am_cast.specs.Seats.{account_of}
use Rattle.am_cast.specs.Keys.{all_items}
use Rattle.am_cast.specs.Keys as keys
use Rattle.am_cast.specs.Cursors.{CursorView, HasCut, HasEnded}
use Rattle.am_cast.specs.Cursors as cast
use Rattle.am_store.specs.declared.call.Call.{Call}
use Rattle.am_store.specs.declared.call.Call.TheVariants.{Posted, Subscribed, Left, Closed}
use Rattle.am_store.specs.declared.lanes.OpenLane.{OpenLane}
use Rattle.am_store.specs.AlertList.{with_alerts, batch_by_list}
use Rattle.am_store.specs.Journal.{JournalView, with_call, call_count, until, lefts_of, IsOpenSubscription, MayFollow}
use Rattle.am_store.specs.Stored.{updates, stored}
use Rattle.am_store.specs.Broadcast.{broadcast, items_of, due, IsFront}
use Rattle.am_store.specs.Lanes.{lane_at, open_count, IsLowestFree, IsItsOpening}
use Rattle.am_store.specs.Pages.{book_of}
use Rattle.am_store.proofs.Opens.{until_end, until_stays, open_within}
use Rattle.am_store.proofs.Kept.{sound_posted, sound_closed, few}
use Rattle.am_store.proofs.Flags.{sound_subscribed, sound_left, lane_set, due_of, open_count_cleared, room_to_leave}
use Rattle.am_store.proofs.Items.{all_small}
use Rattle.am_provider.specs.declared.answers.Ended.{Ended}
use Rattle.am_provider.specs.Batches.{Batch, LogView, posts_in, sent_in}
use Rattle.am_provider.specs.BookView.{IsEndingOf}
use Rattle.am_provider.specs.Histories.{sends}
use Rattle.am_provider.specs.Subscriptions.{SubscriptionView, taken}
use Rattle.am_provider.specs.Vouching.{HasTakenDue}
use Rattle.am_provider.specs.inside.Shelves.{Shelf, pages_of, view_of, IsKeptLane, IsKeptBook}
use Rattle.am_provider.specs.inside.Subscribed.{IsSubscription}
use Rattle.am_provider.specs.Lefts.{left_ats}
use Rattle.am_provider.proofs.Lefts.{lefts_quiet, lefts_left, count_quiet, count_left}
use Rattle.am_provider.proofs.Shelves.{kept_grown, GoesOnAs, same_account, lane_stays, posts_grown, ending_grown, endings_grown}

-- ---- the end of the log

pub kept_closed : (a b : Shelf) (counted places : ℕ) → IsKeptBook a counted places → a.log.tail.closed ≡ false → b.journal.journal ≡ with_call a.journal.journal Closed
    → b.stored ≡ a.stored → b.log ≡ record a.log { tail = shut_tail a.log.tail } → b.lanes ≡ a.lanes → b.posts ≡ a.posts → b.endings ≡ a.endings → b.early ≡ a.early
    → b.journal.gone ≡ a.journal.gone → a.journal.room ≤ b.journal.room + 1 → IsKeptBook b counted places
kept_closed a b counted places kept still journal stored log lanes posts endings early gone room =
    kept_grown a b counted counted places places Closed kept
    (sound_closed (pages_of a) (pages_of b) kept.pages still journal stored (ap (λ (q : LogView). sent_in q.tail.log) log) lanes posts (ap (λ (q : LogView). q.tail.closed) log) gone room)
    (sym kept.pages.closed ∙ still) (λ came. refl) journal (ap (λ (q : LogView). posts_in q.tail.log) log ∙ sym (append-nil (posts_in a.log.tail.log))) lanes
    (λ lane small. same_account (account_of a.log lane) (account_of b.log lane) (ap (λ (q : LogView). account_of q lane) log))
    endings early (kept.total ∙ ap (λ (q : LogView). length q.tail.log) (sym log)) (omega arith)

-- ---- a post

sends_some : (now : ℕ) (news : List Alert) → 0 < length news → filter sends (Posted now news ∷ []) ≡ Posted now news ∷ []
sends_some now [] some = absurd (omega arith)
sends_some now (new ∷ news) some = refl

none_zero : (batch : List Alert) → 0 < length batch → nat_eq (length batch) 0 ≡ false
none_zero [] some = absurd (omega arith)
none_zero (x ∷ xs) some = Rattle.std.proofs.Math.Dec.eqb-suc-zero (length xs)

pub kept_posted : (a b : Shelf) (counted more places now : ℕ) (news batch : List Alert) (x : Batch) → IsKeptBook a counted places → a.log.tail.closed ≡ false
    → b.journal.journal ≡ with_call a.journal.journal (Posted now news) → b.stored ≡ with_alerts batch a.stored → batch ≡ batch_by_list now news a.stored
    → length batch ≡ length news → length news ≤ MAX_ALERTS → 0 < length news → length a.log.tail.log < LONGEST_LOG
    → x.post ≡ Posted now news → keys.batch_items x ≡ batch → b.log.tail ≡ longer_tail x a.log.tail
    → ((lane : ℕ) → lane < 8 → GoesOnAs (account_of a.log lane) (account_of b.log lane))
    → b.lanes ≡ a.lanes → b.posts ≡ a.posts + 1 → b.endings ≡ a.endings → b.early ≡ a.early → more ≡ counted + 1 → b.journal.gone ≡ a.journal.gone → 9 ≤ b.journal.room → IsKeptBook b more places
kept_posted a b counted more places now news batch x kept still journal stored sent long few some fits post items tail on lanes posts endings early counts gone room =
    let log : b.log.tail.log ≡ a.log.tail.log ++ x ∷ [] = ap (λ (t : Tail Batch). t.log) tail in
    let none : nat_eq (length batch) 0 ≡ false = none_zero batch (omega arith) in
    let all : sent_in b.log.tail.log ≡ cond (nat_eq (length batch) 0) (sent_in a.log.tail.log) (sent_in a.log.tail.log ++ batch ∷ []) =
    ap sent_in log ∙ (map-append (λ (y : Batch). keys.batch_items y) a.log.tail.log (x ∷ []) ∙ (ap (λ (one : List Alert). sent_in a.log.tail.log ++ one ∷ []) items
    ∙ sym (ap (λ (c : Bool). cond c (sent_in a.log.tail.log) (sent_in a.log.tail.log ++ batch ∷ [])) none))) in
    let short : length (sent_in a.log.tail.log) ≡ length a.log.tail.log = length-map a.log.tail.log (λ (y : Batch). keys.batch_items y) in
    kept_grown a b counted more places places (Posted now news) kept
    (sound_posted (pages_of a) (pages_of b) now news batch kept.pages still journal stored all sent long few (λ h. omega arith) (ap (λ (t : Tail Batch). t.closed) tail) lanes posts gone room)
    (sym kept.pages.closed ∙ still) (λ came. refl) journal
    (ap posts_in log ∙ (map-append (λ (y : Batch). y.post) a.log.tail.log (x ∷ []) ∙ (ap (λ one. posts_in a.log.tail.log ++ one ∷ []) post ∙ ap (λ xs. posts_in a.log.tail.log ++ xs) (sym (sends_some now news some)))))
    lanes on endings early
    (counts ∙ (ap (λ n. n + 1) kept.total ∙ sym (ap length log ∙ length-append a.log.tail.log (x ∷ [])))) (omega arith)

pub kept_empty : (a b : Shelf) (counted places now : ℕ) → IsKeptBook a counted places → a.log.tail.closed ≡ false
    → b.journal.journal ≡ with_call a.journal.journal (Posted now []) → b.stored ≡ a.stored → b.log ≡ a.log → b.lanes ≡ a.lanes → b.posts ≡ a.posts + 1 → b.endings ≡ a.endings → b.early ≡ a.early
    → b.journal.gone ≡ a.journal.gone → 9 ≤ b.journal.room → IsKeptBook b counted places
kept_empty a b counted places now kept still journal stored log lanes posts endings early gone room =
    kept_grown a b counted counted places places (Posted now []) kept
    (sound_posted (pages_of a) (pages_of b) now [] [] kept.pages still journal stored (ap (λ (q : LogView). sent_in q.tail.log) log) refl refl (omega arith) (λ h. absurd (omega arith)) (ap (λ (q : LogView). q.tail.closed) log) lanes posts gone room)
    (sym kept.pages.closed ∙ still) (λ came. refl) journal (ap (λ (q : LogView). posts_in q.tail.log) log ∙ sym (append-nil (posts_in a.log.tail.log))) lanes
    (λ lane small. same_account (account_of a.log lane) (account_of b.log lane) (ap (λ (q : LogView). account_of q lane) log))
    endings early (kept.total ∙ ap (λ (q : LogView). length q.tail.log) (sym log)) (omega arith)

-- ---- a subscription

free_lane : (journal : JournalView) (account : Account (KeyView Alert) OpenLane) (o : Option OpenLane) → IsKeptLane journal account o → account.stand ≡ idle → o ≡ None
free_lane journal account None kept e = refl
free_lane journal account (Some one) kept e = absurd (kept.0 e)

taken_lane : (journal : JournalView) (account : Account (KeyView Alert) OpenLane) (o : Option OpenLane) → IsKeptLane journal account o → account.stand ≢ idle → IsSome o
taken_lane journal account None kept ne = absurd (ne kept)
taken_lane journal account (Some one) kept ne = refl

-- the lane that the log gives out is the lowest that the Book has free
pub lowest_free : (a : Shelf) (counted places lane : ℕ) → IsKeptBook a counted places → lane < 8 → (account_of a.log lane).stand ≡ idle
    → ((other : ℕ) → other < lane → (account_of a.log other).stand ≢ idle) → IsLowestFree a.lanes lane
lowest_free a counted places lane kept small free low = record {
  within = small;
  idle = free_lane a.journal.journal (account_of a.log lane) (lane_at a.lanes lane) (kept.lanes lane small) free;
  lowest = λ other h. let inside : other < 8 = omega arith in taken_lane a.journal.journal (account_of a.log other) (lane_at a.lanes other) (kept.lanes other inside) (low other h);
}

some_true : {A : Type 0} (o : Option A) → IsSome o → is_some o ≡ true
some_true None h = h
some_true (Some x) h = refl

-- a subscription of that lane may come next
pub may_subscribe : (a : Shelf) (counted places lane : ℕ) → IsKeptBook a counted places → a.log.tail.closed ≡ false → IsLowestFree a.lanes lane → MayFollow a.journal.journal (Subscribed lane)
may_subscribe a counted places lane kept still low = (
  sym kept.pages.closed ∙ still,
  record {
    within = low.within;
    idle = sym (kept.pages.lanes lane low.within) ∙ ap is_some low.idle;
    lowest = λ other h. let k : other < 8 = omega (arith, low.within) in sym (kept.pages.lanes other k) ∙ some_true (lane_at a.lanes other) (low.lowest other h);
  },
)

lane_begins : (gone : ℕ) (journal : JournalView) (lane other start : ℕ) (one : OpenLane) (o : Option OpenLane) (was is : Account (KeyView Alert) OpenLane)
    → one.at ≡ call_count journal → one.opening ≡ stored (updates journal) → start ≡ journal.places + length (broadcast journal)
    → (lane ≡ other → (is.stand ≡ live) × (is.note ≡ Some one) × (is.start ≡ start) × (is.known ≡ start)) → ((lane ≢ other) → is ≡ was)
    → IfSome o (IsItsOpening gone journal other) → IsKeptLane journal was o → IsKeptLane (with_call journal (Subscribed lane)) is (cond (nat_eq lane other) (Some one) o)
lane_begins gone journal lane other start one o was is at opening starts new same its kept =
    elim (eqb_tells lane other) [
      | inl e ↦
          let own = new e.1 in
          let before : until (with_call journal (Subscribed lane)) one.at ≡ journal = ap (until (with_call journal (Subscribed lane))) at ∙ until_end journal (Subscribed lane) in
          subst (λ t. IsKeptLane (with_call journal (Subscribed lane)) is (cond t (Some one) o)) (sym e.0) (
            λ (no : is.stand ≡ idle). let lives = own.0 in omega arith,
            own.1 ∙ ap (λ o. Some (record { at = one.at; opening = o })) (opening ∙ ap (λ j. stored (updates j)) (sym before)),
            own.2 ∙ (starts ∙ ap (λ j. journal.places + length (broadcast j)) (sym before)),
            omega (arith, own.2, own.3),
          )
      | inr e ↦
          subst (λ t. IsKeptLane (with_call journal (Subscribed lane)) is (cond t (Some one) o)) (sym e.0)
          (lane_stays gone journal (Subscribed lane) other o was is (same_account was is (same e.1)) its kept)
    ]

pub kept_subscribed : (a b : Shelf) (counted places room lane : ℕ) (one : OpenLane) → IsKeptBook a counted places → a.log.tail.closed ≡ false → IsLowestFree a.lanes lane
    → b.journal.journal ≡ with_call a.journal.journal (Subscribed lane) → one.at ≡ call_count a.journal.journal → one.opening ≡ a.stored
    → b.stored ≡ a.stored → b.log.tail ≡ a.log.tail → (account_of b.log lane).stand ≡ live → (account_of b.log lane).note ≡ Some one → (account_of b.log lane).start ≡ length a.log.tail.log → (account_of b.log lane).known ≡ length a.log.tail.log
    → ((other : ℕ) → other ≢ lane → account_of b.log other ≡ account_of a.log other)
    → b.lanes ≡ set a.lanes lane (Some one) → b.posts ≡ a.posts → b.endings ≡ a.endings → b.early ≡ a.early → b.journal.gone ≡ a.journal.gone → 9 ≤ b.journal.room
    → length b.endings + 8 ≤ room → IsKeptBook b counted room
kept_subscribed a b counted places room lane one kept still low journal at opening stored tail stand note start known others lanes posts endings early gone deque roomy =
    let old = a.journal.journal in
    let within : lane < length a.lanes = omega (arith, low.within, kept.pages.eight) in
    let pages = sound_subscribed (pages_of a) (pages_of b) lane one kept.pages still low journal at opening stored (ap (λ (t : Tail Batch). sent_in t.log) tail) lanes (ap (λ (t : Tail Batch). t.closed) tail) posts gone deque in
    let sent : length (sent_in a.log.tail.log) ≡ length a.log.tail.log = length-map a.log.tail.log (λ (y : Batch). keys.batch_items y) in
    let all : length (broadcast old) ≡ length (sent_in a.log.tail.log) - old.places = sym (ap length kept.pages.kept.log) ∙ length-drop old.places (sent_in a.log.tail.log) in
    let starts : length a.log.tail.log ≡ old.places + length (broadcast old) = omega (arith, kept.pages.kept.places) in
    let low_places : old.places ≤ length a.log.tail.log = omega (arith, kept.pages.kept.places) in
    record {
      pages = pages;
      lefts = ap (map (λ (e : Ended). e.at)) endings ∙ (kept.lefts ∙ (lefts_quiet old (Subscribed lane) (λ came. refl) ∙ sym (ap left_ats journal)));
      ends = omega (arith, kept.ends, early, ap length endings, ap lefts_of journal, count_quiet old (Subscribed lane) (λ came. refl));
      posts = subst (λ (j : JournalView). drop j.places (posts_in b.log.tail.log) ≡ filter sends j.calls) (sym journal)
          (posts_grown old a.log.tail.log b.log.tail.log (Subscribed lane) kept.posts low_places (ap (λ (t : Tail Batch). posts_in t.log) tail ∙ sym (append-nil (posts_in a.log.tail.log))));
      lanes = λ other small.
          subst (λ ls. IsKeptLane b.journal.journal (account_of b.log other) (lane_at ls other)) (sym lanes)
          (subst (λ j. IsKeptLane j (account_of b.log other) (lane_at (set a.lanes lane (Some one)) other)) (sym journal)
          (subst (IsKeptLane (with_call old (Subscribed lane)) (account_of b.log other)) (sym (lane_set a.lanes lane other (Some one) within))
          (lane_begins a.journal.gone old lane other (length a.log.tail.log) one (lane_at a.lanes other) (account_of a.log other) (account_of b.log other) at (opening ∙ kept.pages.kept.stored) starts
          (λ e. subst (λ n. ((account_of b.log n).stand ≡ live) × ((account_of b.log n).note ≡ Some one) × ((account_of b.log n).start ≡ length a.log.tail.log) × ((account_of b.log n).known ≡ length a.log.tail.log)) e (stand, note, start, known))
          (λ ne. others other (λ e. ne (sym e))) (kept.pages.openings other) (kept.lanes other small))));
      endings = subst (All (IsEndingOf b.journal.journal)) (sym endings) (subst (λ j. All (IsEndingOf j) a.endings) (sym journal) (endings_grown old (Subscribed lane) a.endings (may_subscribe a counted places lane kept still low) kept.endings));
      total = kept.total ∙ ap (λ (t : Tail Batch). length t.log) (sym tail);
      room = let f = few b.lanes in let e = pages.eight in omega arith;
    }

-- a new cursor has shown nothing
pub fresh_items : (log : List Batch) → all_items (drop (length log) (take (length log) log)) ++ [] ≡ []
fresh_items log = append-nil (all_items (drop (length log) (take (length log) log))) ∙ (ap (λ xs. all_items (drop (length log) xs)) (take_all (length log) log (omega arith)) ∙ ap all_items (past log))
  where
    past : (xs : List Batch) → drop (length xs) xs ≡ []
    past [] = refl
    past (x ∷ xs) = past xs

-- ---- a subscription is left

-- what a lane has, where it isn't idle
pub lane_given : (a : Shelf) (counted places lane : ℕ) → IsKeptBook a counted places → lane < 8 → (account_of a.log lane).stand ≢ idle
    → (one : OpenLane) × (lane_at a.lanes lane ≡ Some one) × IsItsOpening a.journal.gone a.journal.journal lane one
    × ((account_of a.log lane).note ≡ Some (record { at = one.at; opening = stored (updates (until a.journal.journal one.at)) }))
    × ((account_of a.log lane).start ≡ a.journal.journal.places + length (broadcast (until a.journal.journal one.at)))
lane_given a counted places lane kept small ne = given (lane_at a.lanes lane) refl (kept.pages.openings lane) (kept.lanes lane small)
  where
    given : (o : Option OpenLane) → lane_at a.lanes lane ≡ o → IfSome o (IsItsOpening a.journal.gone a.journal.journal lane) → IsKeptLane a.journal.journal (account_of a.log lane) o
        → (one : OpenLane) × (lane_at a.lanes lane ≡ Some one) × IsItsOpening a.journal.gone a.journal.journal lane one
        × ((account_of a.log lane).note ≡ Some (record { at = one.at; opening = stored (updates (until a.journal.journal one.at)) }))
        × ((account_of a.log lane).start ≡ a.journal.journal.places + length (broadcast (until a.journal.journal one.at)))
    given None here its own = absurd (ne own)
    given (Some one) here its own = (one, here, its, own.1, own.2)

pub items_alike : (log : List Batch) → all_items log ≡ items_of (sent_in log)
items_alike [] = refl
items_alike (x ∷ xs) = ap (λ rest. keys.batch_items x ++ rest) (items_alike xs)

-- what is due is the opening, and then what the log has from the subscription's start on
pub due_is : (a : Shelf) (counted places lane start : ℕ) (one : OpenLane) → IsKeptBook a counted places → one.opening ≡ stored (updates (until a.journal.journal one.at))
    → start ≡ a.journal.journal.places + length (broadcast (until a.journal.journal one.at))
    → one.opening ++ all_items (drop start a.log.tail.log) ≡ due a.journal.journal one.at
due_is a counted places lane start one kept opening starts =
    ap (λ xs. one.opening ++ xs) (items_alike (drop start a.log.tail.log) ∙ ap items_of (sym (drop-map (λ (y : Batch). keys.batch_items y) start a.log.tail.log)))
    ∙ due_of (book_of (pages_of a)) start one kept.pages.kept opening starts

-- what was taken begins all that there is
taken_begins : (s : SubscriptionView) (count : ℕ) (rest : List Alert) → IsSubscription s count → IsPrefix (cast.shown_items s.cursor) rest → IsFront (taken s) (s.opening ++ rest)
taken_begins s count rest of began =
    ⊎_elim (λ (less : s.shown < length s.opening).
    let none = (of.first less).taken in (
      drop s.shown s.opening ++ rest,
      ap (λ xs. (take s.shown s.opening ++ xs) ++ (drop s.shown s.opening ++ rest)) none
          ∙ (ap (λ xs. xs ++ (drop s.shown s.opening ++ rest)) (append-nil (take s.shown s.opening))
          ∙ (sym (append_assoc (take s.shown s.opening) (drop s.shown s.opening) rest) ∙ ap (λ xs. xs ++ rest) (take-append-drop s.shown s.opening))),
    ))
    (λ (all : length s.opening ≤ s.shown). (
      began.0,
      ap (λ xs. (xs ++ cast.shown_items s.cursor) ++ began.0) (take_all s.shown s.opening all)
          ∙ (append_assoc s.opening (cast.shown_items s.cursor) began.0 ∙ ap (λ xs. s.opening ++ xs) began.1),
    ))
    (below s.shown (length s.opening))
  where
    below : (m n : ℕ) → (m < n) ⊎ (n ≤ m)
    below m zero = inr (omega arith)
    below zero (suc n) = inl (omega arith)
    below (suc m) (suc n) = ⊎_elim (λ (h : m < n). inl (omega arith)) (λ (h : n ≤ m). inr (omega arith)) (below m n)

taken_complete : (s : SubscriptionView) (count : ℕ) (rest : List Alert) → IsSubscription s count → s.closed_told ≡ true → (HasEnded s.cursor → cast.shown_items s.cursor ≡ rest) → taken s ≡ s.opening ++ rest
taken_complete s count rest of told ended =
    let all = of.told told in
    let past : length s.opening ≤ s.shown = omega (arith, all.1) in
    ap (λ xs. xs ++ cast.shown_items s.cursor) (take_all s.shown s.opening past) ∙ ap (λ xs. s.opening ++ xs) (ended all.0)

-- all that a left subscription says, of the Book that it leaves
pub record Leaving (a : Shelf) (s : SubscriptionView) (one : OpenLane) : Type 0 where
  pub here : lane_at a.lanes s.cursor.lane.number ≡ Some one
  pub its : IsItsOpening a.journal.gone a.journal.journal s.cursor.lane.number one
  pub start : s.cursor.lane.start ≡ a.journal.journal.places + length (broadcast (until a.journal.journal one.at))
  pub at : s.at ≡ one.at
  pub opening : s.opening ≡ stored (updates (until a.journal.journal one.at))
  pub owes : due a.journal.journal s.at ≡ s.opening ++ items_of (drop s.cursor.lane.start (sent_in a.log.tail.log))
  pub front : IsFront (taken s) (due a.journal.journal s.at)
  pub complete : s.closed_told ≡ true → taken s ≡ due a.journal.journal s.at
  pub closed : s.closed_told ≡ true → a.log.tail.closed ≡ true

pub leaving : (a : Shelf) (counted places count : ℕ) (s : SubscriptionView) → IsKeptBook a counted places → IsSubscription s count → s.cursor.lane.number < 8
    → (account_of a.log s.cursor.lane.number).stand ≢ idle → s.cursor.lane.note ≡ (account_of a.log s.cursor.lane.number).note → s.cursor.lane.start ≡ (account_of a.log s.cursor.lane.number).start
    → (s.cursor.lane.told ≡ true → a.log.tail.closed ≡ true)
    → IsPrefix (cast.shown_items s.cursor) (all_items (drop s.cursor.lane.start a.log.tail.log))
    → (HasEnded s.cursor → cast.shown_items s.cursor ≡ all_items (drop s.cursor.lane.start a.log.tail.log))
    → (one : OpenLane) × Leaving a s one
leaving a counted places count s kept of small ne note_is start_is told_closed began ended =
    let lane = s.cursor.lane.number in
    let given = lane_given a counted places lane kept small ne in
    let one = given.0 in
    let then : OpenLane = record { at = one.at; opening = stored (updates (until a.journal.journal one.at)) } in
    let same : Some (record { at = s.at; opening = s.opening }) ≡ Some then = sym of.note ∙ (note_is ∙ given.3) in
    let note : (record { at = s.at; opening = s.opening }) ≡ then = some_same _ then same in
    let at : s.at ≡ one.at = ap (λ (o : OpenLane). o.at) note in
    let opening : s.opening ≡ then.opening = ap (λ (o : OpenLane). o.opening) note in
    let start : s.cursor.lane.start ≡ a.journal.journal.places + length (broadcast (until a.journal.journal one.at)) = start_is ∙ given.4 in
    let all : s.opening ++ all_items (drop s.cursor.lane.start a.log.tail.log) ≡ due a.journal.journal s.at =
    ap (λ xs. xs ++ all_items (drop s.cursor.lane.start a.log.tail.log)) opening ∙ (due_is a counted places lane s.cursor.lane.start then kept refl start ∙ ap (due a.journal.journal) (sym at)) in (
      one,
      record {
        here = given.1;
        its = given.2;
        start = start;
        at = at;
        opening = opening;
        owes = sym all ∙ ap (λ xs. s.opening ++ xs) (items_alike (drop s.cursor.lane.start a.log.tail.log) ∙ ap items_of (sym (drop-map (λ (y : Batch). keys.batch_items y) s.cursor.lane.start a.log.tail.log)));
        front = subst (IsFront (taken s)) all (taken_begins s count (all_items (drop s.cursor.lane.start a.log.tail.log)) of began);
        complete = λ told. taken_complete s count (all_items (drop s.cursor.lane.start a.log.tail.log)) of told ended ∙ all;
        closed = λ told. told_closed (of.told told).0.0;
      },
    )
  where
    some_same : (x y : OpenLane) → Some x ≡ Some y → x ≡ y
    some_same x y e = cc

-- as many were taken as the count says
pub all_counted : (a : Shelf) (counted places count : ℕ) (s : SubscriptionView) (one : OpenLane) → IsKeptBook a counted places → IsSubscription s count → Leaving a s one
    → length s.opening < 2 ^ 63 → count ≡ length (taken s)
all_counted a counted places count s one kept of by short =
    let start = s.cursor.lane.start in
    let sent = sent_in a.log.tail.log in
    let then : OpenLane = record { at = one.at; opening = stored (updates (until a.journal.journal one.at)) } in
    let small = all_small sent start then.opening kept.pages.limits (omega (arith, ap length by.opening)) in
    let whole : length (then.opening ++ items_of (drop start sent)) ≡ length (due a.journal.journal s.at) =
    ap length (due_of (book_of (pages_of a)) start then kept.pages.kept refl by.start ∙ ap (due a.journal.journal) (sym by.at)) in
    let parts : length (taken s) + length by.front.0 ≡ length (due a.journal.journal s.at) = sym (length-append (taken s) by.front.0) ∙ ap length by.front.1 in
    let l = length (taken s) in
    let c = of.counted in
    omega arith

-- the same of the cursor that was taken out of it
pub leaving_by : (a : Shelf) (counted places count : ℕ) (s : SubscriptionView) (cursor : CursorView Alert Call OpenLane) → IsKeptBook a counted places → IsSubscription s count → cursor ≡ s.cursor → cursor.lane.number < 8
    → (account_of a.log cursor.lane.number).stand ≢ idle → Sound a.log.tail (account_of a.log cursor.lane.number) (left cursor.lane) cursor.lane.number
    → IsPrefix (cast.shown_items cursor) (all_items (drop cursor.lane.start a.log.tail.log))
    → (HasEnded cursor → cast.shown_items cursor ≡ all_items (drop cursor.lane.start a.log.tail.log))
    → (one : OpenLane) × Leaving a s one
leaving_by a counted places count s cursor kept of same small ne sound began ended =
    let here = subst (λ (k : CursorView Alert Call OpenLane). Sound a.log.tail (account_of a.log k.lane.number) (left k.lane) k.lane.number) same sound in
    leaving a counted places count s kept of
    (subst (λ (k : CursorView Alert Call OpenLane). k.lane.number < 8) same small)
    (subst (λ (k : CursorView Alert Call OpenLane). (account_of a.log k.lane.number).stand ≢ idle) same ne)
    here.note here.start (λ told. (here.seen.told told).0)
    (subst (λ (k : CursorView Alert Call OpenLane). IsPrefix (cast.shown_items k) (all_items (drop k.lane.start a.log.tail.log))) same began)
    (subst (λ (k : CursorView Alert Call OpenLane). HasEnded k → cast.shown_items k ≡ all_items (drop k.lane.start a.log.tail.log)) same ended)

-- it has taken its due, by the Book that it leaves or in which it goes on
pub has_taken : (a : Shelf) (counted places : ℕ) (s : SubscriptionView) (one : OpenLane) → IsKeptBook a counted places → Leaving a s one
    → (HasCut s.cursor → (account_of a.log s.cursor.lane.number).stand ≡ cut) → s.cursor.lane.places ≡ a.log.tail.places
    → ((account_of a.log s.cursor.lane.number).stand ≡ cut → s.cursor.lane.passed ≤ (account_of a.log s.cursor.lane.number).half / 2 + 1) → HasTakenDue (view_of a) s
has_taken a counted places s one kept by was_cut same lags = record {
  lane = subst (IsOpenSubscription a.journal.journal s.cursor.lane.number) (sym by.at) by.its.given;
  owes = by.owes;
  front = by.front;
  complete = by.complete;
  told_closed = λ told. sym kept.pages.closed ∙ by.closed told;
  told_cut = was_cut;
  places = same;
  lags = lags;
}

is_given : (a : Shelf) (s : SubscriptionView) (one : OpenLane) → Leaving a s one → is_some (lane_at a.lanes s.cursor.lane.number) ≡ true
is_given a s one by = ap is_some by.here

pub room_for_left : (a : Shelf) (counted places : ℕ) (s : SubscriptionView) (one : OpenLane) → IsKeptBook a counted places → Leaving a s one → 0 < a.journal.room
room_for_left a counted places s one kept by =
    room_to_leave (pages_of a) s.cursor.lane.number one.at kept.pages by.its.given

pub room_for_ending : (a : Shelf) (counted places : ℕ) (s : SubscriptionView) (one : OpenLane) → IsKeptBook a counted places → Leaving a s one → s.cursor.lane.number < 8 → length a.endings < places
room_for_ending a counted places s one kept by small =
    let within : s.cursor.lane.number < length a.lanes = omega (arith, kept.pages.eight) in
    let fewer = open_count_cleared a.lanes s.cursor.lane.number within (is_given a s one by) in
    omega (arith, kept.room)

ending_of : (a : Shelf) (s : SubscriptionView) (one : OpenLane) (ended : Ended) (counted places : ℕ) → IsKeptBook a counted places → Leaving a s one → ended.at ≡ s.at → ended.taken ≡ length (taken s) → ended.closed ≡ s.closed_told
    → IsEndingOf a.journal.journal ended
ending_of a s one ended counted places kept by at count closed =
    let journal = a.journal.journal in
    let inside = open_within journal s.cursor.lane.number one.at by.its.given in
    let low = by.its.given.begun in
    let parts : length (taken s) + length by.front.0 ≡ length (due journal s.at) = sym (length-append (taken s) by.front.0) ∙ ap length by.front.1 in
    let same : length (due journal ended.at) ≡ length (due journal s.at) = ap (λ n. length (due journal n)) at in
    record {
      within = omega arith;
      complete = λ told. count ∙ (ap length (by.complete (sym closed ∙ told)) ∙ sym same);
      closed = λ told. sym kept.pages.closed ∙ by.closed (sym closed ∙ told);
      low = omega (arith, by.at);
      high = omega (arith, by.at);
    }

lane_leaves : (gone : ℕ) (journal : JournalView) (lane other : ℕ) (o : Option OpenLane) (was is : Account (KeyView Alert) OpenLane) → (lane ≡ other → is.stand ≡ idle) → (lane ≢ other → is ≡ was)
    → IfSome o (IsItsOpening gone journal other) → IsKeptLane journal was o → IsKeptLane (with_call journal (Left lane)) is (cond (nat_eq lane other) None o)
lane_leaves gone journal lane other o was is free same its kept =
    elim (eqb_tells lane other) [
      | inl e ↦ subst (λ t. IsKeptLane (with_call journal (Left lane)) is (cond t None o)) (sym e.0) (free e.1)
      | inr e ↦ subst (λ t. IsKeptLane (with_call journal (Left lane)) is (cond t None o)) (sym e.0) (stays o (same e.1) its kept)
    ]
  where
    stays : (o : Option OpenLane) → is ≡ was → IfSome o (IsItsOpening gone journal other) → IsKeptLane journal was o → IsKeptLane (with_call journal (Left lane)) is o
    stays None e its kept = ap (λ (x : Account (KeyView Alert) OpenLane). x.stand) e ∙ kept
    stays (Some one) e its kept = (
      (λ (no : is.stand ≡ idle). kept.0 (sym (ap (λ (x : Account (KeyView Alert) OpenLane). x.stand) e) ∙ no)),
      ap (λ (x : Account (KeyView Alert) OpenLane). x.note) e
          ∙ (kept.1 ∙ ap (λ j. Some (record { at = one.at; opening = stored (updates j) })) (sym (until_stays journal (Left lane) other one.at its.given))),
      ap (λ (x : Account (KeyView Alert) OpenLane). x.start) e ∙ (kept.2 ∙ ap (λ j. journal.places + length (broadcast j)) (sym (until_stays journal (Left lane) other one.at its.given))),
      subst (λ (x : Account (KeyView Alert) OpenLane). x.start ≤ x.known) (sym e) kept.3,
    )

pub kept_left : (a b : Shelf) (counted places room : ℕ) (s : SubscriptionView) (one : OpenLane) (ended : Ended) → IsKeptBook a counted places → Leaving a s one → s.cursor.lane.number < 8
    → b.journal.journal ≡ with_call a.journal.journal (Left s.cursor.lane.number) → b.stored ≡ a.stored → b.log.tail ≡ a.log.tail → (account_of b.log s.cursor.lane.number).stand ≡ idle
    → ((other : ℕ) → other ≢ s.cursor.lane.number → account_of b.log other ≡ account_of a.log other)
    → b.lanes ≡ set a.lanes s.cursor.lane.number None → b.posts ≡ a.posts → b.endings ≡ a.endings ++ ended ∷ [] → b.early ≡ a.early
    → ended.at ≡ s.at → ended.taken ≡ length (taken s) → ended.closed ≡ s.closed_told
    → b.journal.gone ≡ a.journal.gone → a.journal.room ≤ b.journal.room + 1 → places ≤ room → IsKeptBook b counted room
kept_left a b counted places room s one ended kept by small journal stored tail free others lanes posts endings early at count closed gone deque roomy =
    let lane = s.cursor.lane.number in
    let old = a.journal.journal in
    let within : lane < length a.lanes = omega (arith, kept.pages.eight) in
    let pages = sound_left (pages_of a) (pages_of b) lane one.at kept.pages by.its.given journal stored (ap (λ (t : Tail Batch). sent_in t.log) tail) lanes (ap (λ (t : Tail Batch). t.closed) tail) posts gone deque in
    let sent : length (sent_in a.log.tail.log) ≡ length a.log.tail.log = length-map a.log.tail.log (λ (y : Batch). keys.batch_items y) in
    let low_places : old.places ≤ length a.log.tail.log = omega (arith, kept.pages.kept.places) in
    let is_open : MayFollow old (Left lane) = sym (kept.pages.lanes lane small) ∙ is_given a s one by in
    let mine = ending_of a s one ended counted places kept by at count closed in
    let fewer : open_count b.lanes + 1 ≡ open_count a.lanes = ap (λ ls. open_count ls + 1) lanes ∙ open_count_cleared a.lanes lane within (is_given a s one by) in
    let more : length b.endings ≡ length a.endings + 1 = ap length endings ∙ length-append a.endings (ended ∷ []) in
    record {
      pages = pages;
      lefts = ap (map (λ (e : Ended). e.at)) endings ∙ (map-append (λ (e : Ended). e.at) a.endings (ended ∷ []) ∙ (ap (λ xs. xs ++ ended.at ∷ []) kept.lefts
          ∙ (ap (λ n. left_ats old ++ n ∷ []) (at ∙ by.at) ∙ (sym (lefts_left old lane one.at kept.pages.kept.legal by.its.given) ∙ sym (ap left_ats journal)))));
      ends = omega (arith, kept.ends, early, more, ap lefts_of journal, count_left old lane);
      posts = subst (λ (j : JournalView). drop j.places (posts_in b.log.tail.log) ≡ filter sends j.calls) (sym journal)
          (posts_grown old a.log.tail.log b.log.tail.log (Left lane) kept.posts low_places (ap (λ (t : Tail Batch). posts_in t.log) tail ∙ sym (append-nil (posts_in a.log.tail.log))));
      lanes = λ other inside.
          subst (λ ls. IsKeptLane b.journal.journal (account_of b.log other) (lane_at ls other)) (sym lanes)
          (subst (λ j. IsKeptLane j (account_of b.log other) (lane_at (set a.lanes lane None) other)) (sym journal)
          (subst (IsKeptLane (with_call old (Left lane)) (account_of b.log other)) (sym (lane_set a.lanes lane other None within))
          (lane_leaves a.journal.gone old lane other (lane_at a.lanes other) (account_of a.log other) (account_of b.log other)
          (λ e. subst (λ n. (account_of b.log n).stand ≡ idle) e free) (λ ne. others other (λ e. ne (sym e))) (kept.pages.openings other) (kept.lanes other inside))));
      endings = subst (All (IsEndingOf b.journal.journal)) (sym endings) (subst (λ j. All (IsEndingOf j) (a.endings ++ ended ∷ [])) (sym journal)
          (All-append (IsEndingOf (with_call old (Left lane))) a.endings (ended ∷ []) (endings_grown old (Left lane) a.endings is_open kept.endings)
          (λ k d h. only (IsEndingOf (with_call old (Left lane))) k d h (ending_grown old (Left lane) ended is_open mine))));
      total = kept.total ∙ ap (λ (t : Tail Batch). length t.log) (sym tail);
      room = omega (arith, kept.room);
    }
  where
    only : (P : Ended → Type 0) (k : ℕ) (d : Ended) → k < length (ended ∷ []) → P ended → P (Rattle.std.proofs.Common.get_or (ended ∷ []) k d)
    only P zero d h p = p
    only P (suc k) d h p = absurd (omega arith)
