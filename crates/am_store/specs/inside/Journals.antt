-- How a dropped call is counted in the fields of a journal.
use Rattle.std.specs.Prelude.{◌≡◌, ℕ, ◌+◌, ◌^◌, ◌<◌, ◌≤◌, [], ◌∷◌, ◌||◌, length, drop, count_by, ⊤}
use Rattle.std.specs.VecDeque.{deque_capacity}
use Rattle.am_store.specs.declared.journal.Journal.{Journal}
use Rattle.am_store.specs.declared.call.Call.{Call}
use Rattle.am_store.specs.declared.call.Call.TheVariants.{Posted, Collected, Subscribed, Left, Closed}
use Rattle.am_store.specs.Journal.{journal_of, first_calls, closes, is_closed, is_post, posts_of, is_left}
use Rattle.am_store.specs.LaneSets.{has_lane}
use Rattle.am_store.specs.Journal.{lefts_of, open_after, is_open}
use Rattle.am_store.specs.Broadcast.{batches_of, broadcast}

-- a call's lane is one of the eight
abbrev pub IsOnALane : Call → Type 0
IsOnALane (Posted now alerts) = ⊤
IsOnALane (Collected now) = ⊤
IsOnALane (Subscribed lane) = lane < 8
IsOnALane (Left lane) = lane < 8
IsOnALane Closed = ⊤

-- one call more was counted among those that were dropped, and the rest stays
pub record IsCounted (old : Journal) (call : Call) (new : Journal) : Type 0 where
  pub places : new.places ≡ old.places + length (batches_of [] call)
  pub posts : new.posts ≡ old.posts + count_by is_post (call ∷ [])
  pub lefts : new.lefts ≡ old.lefts + count_by is_left (call ∷ [])
  pub lanes : (lane : ℕ) → has_lane new.lanes lane ≡ open_after lane (has_lane old.lanes lane) call
  pub eight : new.lanes < 2 ^ 8
  pub closed : new.closed ≡ (old.closed || closes call)
  pub before : new.before ≡ old.before
  pub store : new.store ≡ old.store
  pub calls : new.calls ≡ old.calls

-- the first `count` of a journal's calls went, and each was counted
pub record AreDropped (old : Journal) (count : ℕ) (new : Journal) : Type 0 where
  pub calls : new.calls.items ≡ drop count old.calls.items
  pub capacity : deque_capacity new.calls ≡ deque_capacity old.calls
  pub before : new.before ≡ old.before
  pub places : new.places ≡ old.places + length (broadcast (first_calls count (journal_of old)))
  pub posts : new.posts ≡ posts_of (first_calls count (journal_of old))
  pub lefts : new.lefts ≡ lefts_of (first_calls count (journal_of old))
  pub lanes : (lane : ℕ)
      → has_lane new.lanes lane ≡ is_open (first_calls count (journal_of old)) lane
  pub eight : new.lanes < 2 ^ 8
  pub closed : new.closed ≡ is_closed (first_calls count (journal_of old))
  pub fewer : new.places ≤ new.posts
  pub few : new.posts ≤ old.before + count
  pub few_lefts : new.lefts ≤ old.before + count
