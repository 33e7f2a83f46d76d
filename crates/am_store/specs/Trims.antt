-- What a trim drops of a journal, and what it leaves.
use Rattle.std.specs.Prelude.{◌≡◌, ℕ, ◌+◌, ◌≤◌, ◌⊎◌, if◌then◌else◌, nat_le, length, drop}
use Rattle.am_store.specs.declared.journal.TheConstants.{MAX_BEFORE}
use Rattle.am_store.specs.LaneSets.{has_lane}
use Rattle.am_store.specs.Journal.{JournalView, first_calls, is_closed, posts_of, lefts_of, is_open}
use Rattle.am_store.specs.Journal.{IsOpenSubscription}
use Rattle.am_store.specs.Stored.{updates, stored}
use Rattle.am_store.specs.Broadcast.{broadcast}

-- `count` is the number of calls before the earliest open subscription, or of all calls if none is open
pub record AreBeforeOpen (journal : JournalView) (count : ℕ) : Type 0 where
  pub within : count ≤ length journal.calls
  pub kept : (lane at : ℕ) → IsOpenSubscription journal lane at → journal.before + count ≤ at
  pub most : (count ≡ length journal.calls)
      ⊎ ((lane : ℕ) × IsOpenSubscription journal lane (journal.before + count))

-- how many calls a trim drops: those before the earliest open subscription, but none where more would
-- be dropped in all than can be counted
abbrev pub Drops : JournalView → ℕ → Type 0
Drops journal dropped =
    (count : ℕ) × AreBeforeOpen journal count
    × (dropped ≡ (if nat_le (journal.before + count) MAX_BEFORE then count else 0))

-- the journal without its first `count` calls: what they left is kept in their place
pub record IsTrimmed (old : JournalView) (count : ℕ) (new : JournalView) : Type 0 where
  pub before : new.before ≡ old.before + count
  pub places : new.places ≡ old.places + length (broadcast (first_calls count old))
  pub posts : new.posts ≡ posts_of (first_calls count old)
  pub lefts : new.lefts ≡ lefts_of (first_calls count old)
  pub store : new.store ≡ stored (updates (first_calls count old))
  pub lanes : (lane : ℕ) → has_lane new.lanes lane ≡ is_open (first_calls count old) lane
  pub closed : new.closed ≡ is_closed (first_calls count old)
  pub calls : new.calls ≡ drop count old.calls
