-- The first calls of a journal go one by one.
use Rattle.std.proofs.Common.{◌≡◌, ℕ, ◌+◌, ◌^◌, ◌<◌, ◌≤◌, true, ◌||◌, List, [], ◌∷◌, length, drop, Some, refl, sym, ap, ◌∙◌, arith, length-append, length-drop}
use Rattle.std.specs.List.{slice_get, count_by}
use Rattle.std.specs.VecDeque.{deque_len, deque_capacity}
use Rattle.std.specs.declared.collections.VecDeque.{VecDeque}
use Rattle.std.proofs.lemmas.Bool.{cases_lt}
use Rattle.am_store.specs.declared.call.Call.{Call}
use Rattle.am_store.specs.declared.call.Call.TheVariants.{Posted, Collected, Subscribed, Left, Closed}
use Rattle.std.specs.declared.alloc.Global.{Global}
use Rattle.am_store.specs.declared.journal.Journal.{Journal}
use Rattle.am_store.specs.LaneSets.{has_lane}
use Rattle.am_store.specs.Journal.{with_call, first_calls, closes, is_closed, is_post, posts_of, is_left, lefts_of, open_after, is_open, IsLegal}
use Rattle.am_store.specs.Stored.{Update, updates}
use Rattle.am_store.specs.Broadcast.{batches_of, broadcast}
use Rattle.am_store.specs.Journal.{journal_of}
use Rattle.am_store.specs.inside.Journals.{IsOnALane, IsCounted, AreDropped}
use Rattle.am_store.proofs.Journals.{get_drop, drop_twice, first_more, broadcast_last, closed_last, posts_last, lefts_last, open_last}
use Rattle.am_store.proofs.LaneBits.{high_lane}

batch_count : (before : List Update) (c : Call) → length (batches_of before c) ≡ length (batches_of [] c)
batch_count before (Posted now []) = refl
batch_count before (Posted now (new ∷ news)) = refl
batch_count before (Collected now) = refl
batch_count before (Subscribed lane) = refl
batch_count before (Left lane) = refl
batch_count before Closed = refl

batches_few : (c : Call) → length (batches_of [] c) ≤ count_by is_post (c ∷ [])
batches_few (Posted now []) = omega arith
batches_few (Posted now (new ∷ news)) = omega arith
batches_few (Collected now) = omega arith
batches_few (Subscribed lane) = omega arith
batches_few (Left lane) = omega arith
batches_few Closed = omega arith

posts_few : (c : Call) → count_by is_post (c ∷ []) ≤ 1
posts_few (Posted now news) = omega arith
posts_few (Collected now) = omega arith
posts_few (Subscribed lane) = omega arith
posts_few (Left lane) = omega arith
posts_few Closed = omega arith

lefts_few : (c : Call) → count_by is_left (c ∷ []) ≤ 1
lefts_few (Posted now news) = omega arith
lefts_few (Collected now) = omega arith
lefts_few (Subscribed lane) = omega arith
lefts_few (Left lane) = omega arith
lefts_few Closed = omega arith

-- where the next call stands
pub next_at : (old mid : Journal) (i : ℕ) (c : Call) (rest : List Call) → AreDropped old i mid → mid.calls.items ≡ c ∷ rest → slice_get old.calls.items i ≡ Some c
next_at old mid i c rest dropped first = let e : i + 0 ≡ i = omega arith in grind (arith, get_drop)

pub one_dropped : (old mid next : Journal) (i : ℕ) (c : Call) (left : VecDeque Call Global) → AreDropped old i mid → mid.calls.items ≡ c ∷ left.items → deque_capacity left ≡ deque_capacity mid.calls
    → IsCounted (record mid { calls = left }) c next → AreDropped old (i + 1) next
one_dropped old mid next i c left dropped first capacity counted =
    let front = first_calls i (journal_of old) in
    let more : first_calls (i + 1) (journal_of old) ≡ with_call front c = first_more (journal_of old) i c (next_at old mid i c left.items dropped first) in
    let sent : length (broadcast (with_call front c)) ≡ length (broadcast front) + length (batches_of [] c) =
    ap length (broadcast_last front c) ∙ (length-append (broadcast front) (batches_of (updates front) c) ∙ ap (λ n. length (broadcast front) + n) (batch_count (updates front) c)) in
    let total : length (broadcast (first_calls (i + 1) (journal_of old))) ≡ length (broadcast (with_call front c)) = ap (λ j. length (broadcast j)) more in
    record {
      calls = ap (λ (calls : VecDeque Call Global). calls.items) counted.calls
          ∙ (ap (drop 1) (sym first ∙ dropped.calls) ∙ drop_twice i 1 old.calls.items);
      capacity = ap deque_capacity counted.calls ∙ (capacity ∙ dropped.capacity);
      before = counted.before ∙ dropped.before;
      places = omega (arith, counted.places, dropped.places, sent, total);
      posts = counted.posts ∙ (ap (λ n. n + count_by is_post (c ∷ [])) dropped.posts ∙ sym (ap posts_of more ∙ posts_last front c));
      lefts = counted.lefts ∙ (ap (λ n. n + count_by is_left (c ∷ [])) dropped.lefts ∙ sym (ap lefts_of more ∙ lefts_last front c));
      lanes = λ lane. counted.lanes lane ∙ (ap (λ was. open_after lane was c) (dropped.lanes lane) ∙ sym (ap (λ j. is_open j lane) more ∙ open_last front c lane));
      eight = counted.eight;
      closed = counted.closed ∙ (ap (λ b. b || closes c) dropped.closed ∙ sym (ap is_closed more ∙ closed_last front c));
      fewer = omega (arith, counted.places, counted.posts, dropped.fewer, batches_few c);
      few = omega (arith, counted.posts, dropped.few, posts_few c);
      few_lefts = omega (arith, counted.lefts, dropped.few_lefts, lefts_few c);
    }

-- a lane that is open is one of the eight
open_low : (lanes lane : ℕ) → lanes < 2 ^ 8 → has_lane lanes lane ≡ true → lane < 8
open_low lanes lane small e = grind (arith, cases_lt, high_lane)

pub next_lane : (old mid : Journal) (i : ℕ) (c : Call) → AreDropped old i mid → IsLegal (journal_of old) → slice_get old.calls.items i ≡ Some c → IsOnALane c
next_lane old mid i (Posted now alerts) dropped legal e = tt
next_lane old mid i (Collected now) dropped legal e = tt
next_lane old mid i (Subscribed lane) dropped legal e = (legal i (Subscribed lane) e).1.within
next_lane old mid i (Left lane) dropped legal e = open_low mid.lanes lane dropped.eight (dropped.lanes lane ∙ legal i (Left lane) e)
next_lane old mid i Closed dropped legal e = tt

-- a call is left as long as not all that are to go went
pub call_left : (old mid : Journal) (i count : ℕ) → AreDropped old i mid → i < count → count ≤ length old.calls.items → 0 < deque_len mid.calls
call_left old mid i count dropped more within = grind (arith, length-drop)
