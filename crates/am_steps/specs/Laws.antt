-- What holds of every step and of every list of events: the statements of the laws.
use Rattle.std.specs.Prelude.{◌≡◌, ℕ, ◌-◌, ◌≤◌, true, List, length, Some}
use Rattle.am_steps.specs.declared.lane_record.LaneRecord.{LaneRecord}
use Rattle.am_steps.specs.declared.event.Event as event
use Rattle.am_steps.specs.States.{Core, record_of, first_state, first_state_open}
use Rattle.am_steps.specs.Steps.{Step}
use Rattle.am_steps.specs.Runs.{LeadsTo, HasNoCut, open_each}
use Rattle.am_steps.specs.Soundness.{IsSound}
use Rattle.am_steps.specs.Needed.{IsNeeded, IsFreed}

-- two states are the same, field by field
pub record SameState {X : Type 0} (c d : Core X) : Type 0 where
  pub places : d.places ≡ c.places
  pub log : d.log ≡ c.log
  pub closed : d.closed ≡ c.closed
  pub lanes : d.lanes ≡ c.lanes
  pub posters : d.posters ≡ c.posters
  pub lane : (l : ℕ) → d.lane l ≡ c.lane l
  pub poster : (p : ℕ) → d.poster p ≡ c.poster p

module _ (X : Type 0) where
  -- a state and an event have one next state at most
  abbrev pub HasOneNext : Type 0
  HasOneNext = (c d f : Core X) (e : event.Event X) → Step c e d → Step c e f → SameState d f

  -- each step keeps a state sound
  abbrev pub KeepsSound : Type 0
  KeepsSound = (c d : Core X) (e : event.Event X) → IsSound c → Step c e d → IsSound d

  -- whatever events came since the first state, the state is sound
  abbrev pub RunsAreSound : Type 0
  RunsAreSound = (places lanes posters : ℕ) (es : List (event.Event X)) (c : Core X)
      → LeadsTo (first_state places lanes posters) es c → IsSound c

  -- no place that a lane needs is freed
  abbrev pub NeededIsNotFreed : Type 0
  NeededIsNotFreed = (c : Core X) (i : ℕ) → IsSound c → IsNeeded c i → IsFreed c i → ⊥

  -- a freed place stays freed
  abbrev pub StaysFreed : Type 0
  StaysFreed = (c d : Core X) (es : List (event.Event X)) (i : ℕ) → IsSound c → LeadsTo c es d
      → IsFreed c i → IsFreed d i

  -- a closed log stays closed and does not grow
  abbrev pub ClosedStays : Type 0
  ClosedStays = (c d : Core X) (es : List (event.Event X)) → c.closed ≡ true → LeadsTo c es d
      → (d.closed ≡ true) × (d.log ≡ c.log)

  -- if no event is a Cut, each lane that isn't idle lags by at most `places` batches
  abbrev pub IsWithinPlaces : Type 0
  IsWithinPlaces = (places lanes posters : ℕ) (es : List (event.Event X)) (c : Core X)
      → HasNoCut es → LeadsTo (first_state places lanes posters) es c → (l : ℕ) (m : LaneRecord)
      → record_of (c.lane l) ≡ Some m → length c.log - m.known ≤ places

  -- an Admit and an Open of each lane lead to the state in which each is open
  abbrev pub OpensEachLane : Type 0
  OpensEachLane = (places lanes posters : ℕ) → LeadsTo {X = X} (first_state places lanes posters)
      (open_each lanes) (first_state_open places lanes posters)
