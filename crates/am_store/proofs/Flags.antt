-- Subscriptions and the flags of their lanes.
use Rattle.std.proofs.Common.{◌≡◌, ℕ, zero, suc, ◌+◌, ◌-◌, ◌<◌, ◌≤◌, Bool, true, false, cond, ◌||◌, nat_eq, List, [], ◌∷◌, ◌++◌, length, drop, set, Option, None, Some, refl, sym, ap, subst, inl, inr, ◌∙◌, arith, get_or-set_same, get_or-set_other, length-set}
use Rattle.std.specs.Option.{is_some, IfSome, IsSome}
use Rattle.std.proofs.lemmas.List.{append-nil}
use Rattle.std.proofs.lemmas.Bool.Decides.{eqb_tells}
use Rattle.std.proofs.Math.Seq.{drop-append_seam}
use Rattle.am_store.specs.declared.call.Call.TheVariants.{Subscribed, Left}
use Rattle.am_store.specs.declared.lanes.OpenLane.{OpenLane}
use Rattle.am_store.specs.Stored.{updates, stored}
use Rattle.am_store.specs.Broadcast.{broadcast, broadcast_from, items_of, due}
use Rattle.am_store.specs.Journal.{JournalView, with_call, call_count, until, since, IsOpenSubscription}
use Rattle.am_store.specs.PlainBook.{PlainBook, FollowsJournal}
use Rattle.am_store.specs.Lanes.{lane_at, IsLowestFree, open_count, IsItsOpening}
use Rattle.am_store.specs.Pages.{Pages, AgreesWithJournal}
use Rattle.am_store.proofs.Journals.{drop_twice, broadcast_parts}
use Rattle.am_store.proofs.Opens.{is_still_open, lane_low, until_end, open_begins}
use Rattle.am_store.proofs.Kept.{sound_grown, or_false, enough, limits_same, if_some, opening_stays}

-- ---- what is due to a subscription

-- the log from a subscription's start on is what was sent out since
pub log_from : (book : PlainBook) (start at : ℕ) → FollowsJournal book → start ≡ book.journal.places + length (broadcast (until book.journal at))
    → drop start book.log ≡ broadcast_from (updates (until book.journal at)) (since book.journal at)
log_from book start at kept e =
    let before = broadcast (until book.journal at) in
    let after = broadcast_from (updates (until book.journal at)) (since book.journal at) in
    ap (λ n. drop n book.log) e
    ∙ (sym (drop_twice book.journal.places (length before) book.log)
    ∙ (ap (drop (length before)) (kept.log ∙ broadcast_parts book.journal (at - book.journal.before)) ∙ drop-append_seam before after))

-- its opening and that are what is due to it
pub due_of : (book : PlainBook) (start : ℕ) (one : OpenLane) → FollowsJournal book → one.opening ≡ stored (updates (until book.journal one.at))
    → start ≡ book.journal.places + length (broadcast (until book.journal one.at)) → one.opening ++ items_of (drop start book.log) ≡ due book.journal one.at
due_of book start one kept opening starts = grind (arith, log_from)

-- ---- lanes

pub open_count_cleared : (lanes : List (Option OpenLane)) (lane : ℕ) → lane < length lanes → is_some (lane_at lanes lane) ≡ true → open_count (set lanes lane None) + 1 ≡ open_count lanes
open_count_cleared [] lane h t = absurd (omega arith)
open_count_cleared (None ∷ lanes) zero h t = (cc)
open_count_cleared (Some one ∷ lanes) zero h t = omega arith
open_count_cleared (None ∷ lanes) (suc lane) h t = let k : lane < length lanes = omega arith in open_count_cleared lanes lane k t
open_count_cleared (Some one ∷ lanes) (suc lane) h t = let k : lane < length lanes = omega arith in let e = open_count_cleared lanes lane k t in omega arith

pub lane_set : (lanes : List (Option OpenLane)) (lane other : ℕ) (x : Option OpenLane) → lane < length lanes → lane_at (set lanes lane x) other ≡ cond (nat_eq lane other) x (lane_at lanes other)
lane_set lanes lane other x h = grind (arith, eqb_tells, get_or-set_same, get_or-set_other, append-nil)

opened_flag : (t : Bool) (one : OpenLane) (was : Option OpenLane) → is_some (cond t (Some one) was) ≡ (is_some was || t)
opened_flag true one None = refl
opened_flag true one (Some other) = refl
opened_flag false one None = refl
opened_flag false one (Some other) = refl

left_flag : (t : Bool) (was : Option OpenLane) → is_some (cond t None was) ≡ cond t false (is_some was)
left_flag true was = refl
left_flag false was = refl

-- ---- a lane opens

-- each lane but the one that opens has what it had
opening_begins : (gone : ℕ) (journal : JournalView) (lane other : ℕ) (one : OpenLane) (was : Option OpenLane) → one.at ≡ call_count journal → one.opening ≡ stored (updates journal)
    → IfSome was (IsItsOpening gone journal other) → IfSome (cond (nat_eq lane other) (Some one) was) (IsItsOpening gone (with_call journal (Subscribed lane)) other)
opening_begins gone journal lane other one was at opening its =
    elim (eqb_tells lane other) [
      | inl e ↦
          let begun : IsItsOpening gone (with_call journal (Subscribed lane)) lane one = record {
            given = subst (λ n. IsOpenSubscription (with_call journal (Subscribed lane)) lane n) (sym at) (open_begins journal lane);
            opening = λ late. opening ∙ sym (ap (λ j. stored (updates j)) (ap (until (with_call journal (Subscribed lane))) at ∙ until_end journal (Subscribed lane)));
          } in
          subst (λ t. IfSome (cond t (Some one) was) (IsItsOpening gone (with_call journal (Subscribed lane)) other)) (sym e.0)
          (subst (λ n. IsItsOpening gone (with_call journal (Subscribed lane)) n one) e.1 begun)
      | inr e ↦
          subst (λ t. IfSome (cond t (Some one) was) (IsItsOpening gone (with_call journal (Subscribed lane)) other)) (sym e.0)
          (if_some was (λ x same own. opening_stays gone journal (Subscribed lane) other x refl own) its)
    ]

some_true : {A : Type 0} (o : Option A) → IsSome o → is_some o ≡ true
some_true None h = h
some_true (Some x) h = refl

pub sound_subscribed : (a b : Pages) (lane : ℕ) (one : OpenLane) → AgreesWithJournal a → a.closed ≡ false → IsLowestFree a.lanes lane
    → b.journal.journal ≡ with_call a.journal.journal (Subscribed lane)
    → one.at ≡ call_count a.journal.journal → one.opening ≡ a.stored
    → b.stored ≡ a.stored → b.sent ≡ a.sent → b.lanes ≡ set a.lanes lane (Some one) → b.closed ≡ a.closed → b.posts ≡ a.posts
    → b.journal.gone ≡ a.journal.gone → 9 ≤ b.journal.room → AgreesWithJournal b
sound_subscribed a b lane one sound still low journal at opening store log lanes closed posts gone room =
    let within : lane < length a.lanes = omega (arith, low.within, sound.eight) in
    let eight : length b.lanes ≡ length a.lanes = ap length lanes ∙ length-set a.lanes lane (Some one) in
    let set_at : (other : ℕ) → lane_at b.lanes other ≡ cond (nat_eq lane other) (Some one) (lane_at a.lanes other) =
    λ other. ap (λ lanes. lane_at lanes other) lanes ∙ lane_set a.lanes lane other (Some one) within in
    sound_grown a b (Subscribed lane) sound (
      sym sound.closed ∙ still,
      record {
        within = low.within;
        idle = sym (sound.lanes lane low.within) ∙ ap is_some low.idle;
        lowest = λ other h. let k : other < 8 = omega (arith, low.within) in sym (sound.lanes other k) ∙ some_true (lane_at a.lanes other) (low.lowest other h);
      },
    )
    (record {
      journal = journal;
      gone = gone;
      stored = store ∙ (sound.kept.stored ∙ ap stored (sym (append-nil (updates a.journal.journal))));
      log = log ∙ sym (append-nil a.sent);
      closed = closed ∙ sym (or_false a.closed);
      eight = eight;
      lanes = λ other h. ap is_some (set_at other) ∙ opened_flag (nat_eq lane other) one (lane_at a.lanes other);
      openings = λ other. subst (λ o. IfSome o (IsItsOpening a.journal.gone (with_call a.journal.journal (Subscribed lane)) other)) (sym (set_at other))
          (opening_begins a.journal.gone a.journal.journal lane other one (lane_at a.lanes other) at (opening ∙ sound.kept.stored) (sound.openings other));
      posts = omega (arith, posts);
      limits = limits_same a b sound log;
      room = enough b (eight ∙ sound.eight) room;
    })

-- ---- a lane is left

flag_of : (a : Pages) (lane at : ℕ) → AgreesWithJournal a → IsOpenSubscription a.journal.journal lane at → is_some (lane_at a.lanes lane) ≡ true
flag_of a lane at sound of = sound.lanes lane (lane_low a.journal.journal lane at sound.kept.legal of) ∙ is_still_open a.journal.journal lane at of

pub room_to_leave : (a : Pages) (lane at : ℕ) → AgreesWithJournal a → IsOpenSubscription a.journal.journal lane at → 0 < a.journal.room
room_to_leave a lane at sound of =
    let within : lane < length a.lanes = omega (arith, (lane_low a.journal.journal lane at sound.kept.legal of), sound.eight) in
    let e : open_count (set a.lanes lane None) + 1 ≡ open_count a.lanes = open_count_cleared a.lanes lane within (flag_of a lane at sound of) in
    grind (arith)

opening_left : (gone : ℕ) (journal : JournalView) (lane other : ℕ) (was : Option OpenLane) → IfSome was (IsItsOpening gone journal other) → IfSome (cond (nat_eq lane other) None was) (IsItsOpening gone (with_call journal (Left lane)) other)
opening_left gone journal lane other was its =
    elim (eqb_tells lane other) [
      | inl e ↦ subst (λ t. IfSome (cond t None was) (IsItsOpening gone (with_call journal (Left lane)) other)) (sym e.0) tt
      | inr e ↦
          subst (λ t. IfSome (cond t None was) (IsItsOpening gone (with_call journal (Left lane)) other)) (sym e.0)
          (if_some was (λ x same own. opening_stays gone journal (Left lane) other x (ap (λ t. cond t false true) e.0) own) its)
    ]

pub sound_left : (a b : Pages) (lane at : ℕ) → AgreesWithJournal a → IsOpenSubscription a.journal.journal lane at
    → b.journal.journal ≡ with_call a.journal.journal (Left lane)
    → b.stored ≡ a.stored → b.sent ≡ a.sent → b.lanes ≡ set a.lanes lane None → b.closed ≡ a.closed → b.posts ≡ a.posts
    → b.journal.gone ≡ a.journal.gone → a.journal.room ≤ b.journal.room + 1 → AgreesWithJournal b
sound_left a b lane at sound of journal store log lanes closed posts gone room =
    let low = lane_low a.journal.journal lane at sound.kept.legal of in
    let within : lane < length a.lanes = omega (arith, low, sound.eight) in
    let eight : length b.lanes ≡ length a.lanes = ap length lanes ∙ length-set a.lanes lane None in
    let fewer : open_count b.lanes + 1 ≡ open_count a.lanes = ap (λ lanes. open_count lanes + 1) lanes ∙ open_count_cleared a.lanes lane within (flag_of a lane at sound of) in
    let same : cond {A = ℕ} b.closed 0 1 ≡ cond {A = ℕ} a.closed 0 1 = ap (λ (b : Bool). cond {A = ℕ} b 0 1) closed in
    let set_at : (other : ℕ) → lane_at b.lanes other ≡ cond (nat_eq lane other) None (lane_at a.lanes other) =
    λ other. ap (λ lanes. lane_at lanes other) lanes ∙ lane_set a.lanes lane other None within in
    sound_grown a b (Left lane) sound (is_still_open a.journal.journal lane at of)
    (record {
      journal = journal;
      gone = gone;
      stored = store ∙ (sound.kept.stored ∙ ap stored (sym (append-nil (updates a.journal.journal))));
      log = log ∙ sym (append-nil a.sent);
      closed = closed ∙ sym (or_false a.closed);
      eight = eight;
      lanes = λ other h. ap is_some (set_at other) ∙ left_flag (nat_eq lane other) (lane_at a.lanes other);
      openings = λ other. subst (λ o. IfSome o (IsItsOpening a.journal.gone (with_call a.journal.journal (Left lane)) other)) (sym (set_at other))
          (opening_left a.journal.gone a.journal.journal lane other (lane_at a.lanes other) (sound.openings other));
      posts = omega (arith, posts);
      limits = limits_same a b sound log;
      room = omega (arith, sound.room, room);
    })
