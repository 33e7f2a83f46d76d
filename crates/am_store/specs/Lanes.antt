-- The lanes of subscriptions: of each that is open, when it was subscribed and what was stored then.
use Rattle.std.specs.Prelude.{◌≡◌, ℕ, ◌+◌, ◌<◌, ◌≤◌, List, [], ◌∷◌, map, Option, None, Some, slice_index_or}
use Rattle.std.specs.Option.{option_map, IfSome, IsSome}
use Rattle.am_store.specs.declared.lanes.OpenLane.{OpenLane}
use Rattle.am_store.specs.Journal.{JournalView, until, IsOpenSubscription}
use Rattle.am_store.specs.Stored.{updates, stored}

-- a lane, where it is open
abbrev pub lane_at : List (Option OpenLane) → ℕ → Option OpenLane
lane_at lanes lane = slice_index_or lanes lane None

-- how many calls there had been when a lane was subscribed
abbrev pub subscribed_at : OpenLane → ℕ
subscribed_at one = one.at

-- the same of each lane that is open
abbrev pub all_subscribed_at : List (Option OpenLane) → List (Option ℕ)
all_subscribed_at lanes = map (option_map subscribed_at) lanes

-- the lane is the lowest of the eight that isn't open
pub record IsLowestFree (lanes : List (Option OpenLane)) (lane : ℕ) : Type 0 where
  pub within : lane < 8
  pub idle : lane_at lanes lane ≡ None
  pub lowest : (other : ℕ) → other < lane → IsSome (lane_at lanes other)

-- of all open lanes none was subscribed earlier
pub record IsEarliest (lanes : List (Option OpenLane)) (one : OpenLane) : Type 0 where
  pub there : (lane : ℕ) × (lane_at lanes lane ≡ Some one)
  pub earliest : (lane : ℕ) → IfSome (lane_at lanes lane) (λ other. one.at ≤ other.at)

-- how many lanes are open
abbrev pub open_count : List (Option OpenLane) → ℕ
open_count [] = 0
open_count (None ∷ lanes) = open_count lanes
open_count (Some one ∷ lanes) = 1 + open_count lanes

-- what the lane has is its subscription's. Once memory has none of the calls before it, nobody needs its
-- opening
pub record IsItsOpening (gone : ℕ) (journal : JournalView) (lane : ℕ) (one : OpenLane) : Type 0 where
  pub given : IsOpenSubscription journal lane one.at
  pub opening : gone < one.at → one.opening ≡ stored (updates (until journal one.at))
