-- The subscriptions that a journal's calls gave back.
use Rattle.std.specs.Prelude.{ℕ, ◌+◌, List, [], ◌∷◌, ◌++◌, Option, None, Some, if◌then◌else◌, nat_eq}
use Rattle.am_store.specs.declared.call.Call.{Call}
use Rattle.am_store.specs.declared.call.Call.TheVariants.{Posted, Collected, Subscribed, Left, Closed}
use Rattle.am_store.specs.Journal.{JournalView}

-- when the subscription of each lane came, after a call that `at` calls were made before
abbrev pub came_after : (ℕ → Option ℕ) → ℕ → Call → ℕ → Option ℕ
came_after came at (Posted now alerts) lane = came lane
came_after came at (Collected now) lane = came lane
came_after came at (Subscribed other) lane = if nat_eq other lane then Some at else came lane
came_after came at (Left other) lane = came lane
came_after came at Closed lane = came lane

-- a number of calls, where there is one, as a list
abbrev pub at_of : Option ℕ → List ℕ
at_of None = []
at_of (Some at) = at ∷ []

-- when the subscription came that a call gives back, where that is known
abbrev pub left_by : (ℕ → Option ℕ) → Call → List ℕ
left_by came (Posted now alerts) = []
left_by came (Collected now) = []
left_by came (Subscribed lane) = []
left_by came (Left lane) = at_of (came lane)
left_by came Closed = []

-- the same of calls, in their order
abbrev pub left_from : (ℕ → Option ℕ) → ℕ → List Call → List ℕ
left_from came at [] = []
left_from came at (call ∷ calls) =
    left_by came call ++ left_from (came_after came at call) (at + 1) calls

-- when the subscriptions came that were given back, in the order in which they were, without those that
-- came among the dropped calls
abbrev pub left_ats : JournalView → List ℕ
left_ats journal = left_from (λ lane. None) journal.before journal.calls
