-- What a run of a program shows.
use Rattle.std.specs.Prelude.{◌≡◌, ℕ, ◌<◌, true, List, length, map, get_or}
use Rattle.std.specs.List.{All}
use Rattle.am_history.specs.Fronts.{FrontView}
use Rattle.am_alert.specs.declared.alert.Alert.{Alert}
use Rattle.am_cast.specs.Posters.{PassView}
use Rattle.am_store.specs.declared.call.Call.{Call}
use Rattle.am_provider.specs.Ending.{IsSettledFrom}
use Rattle.am_provider.specs.Histories.{EntryView}
use Rattle.am_provider.specs.Rising.{IsRising}
use Rattle.am_provider.specs.declared.settled.Settled.{Settled}

-- a program ran with as many callers: its outcome by their fronts, and the settled provider by all of them,
-- each of which posted at rising places
pub record IsSettledRun (ComesTo : List (FrontView EntryView) → Type 0) (callers : ℕ) (end : Settled)
    : Type 0 where
  pub passes : List (PassView Alert Call)
  pub fronts : List (FrontView EntryView)
  pub count : length fronts ≡ callers
  pub comes_to : ComesTo fronts
  pub settled : IsSettledFrom passes fronts end
  pub rising : All (λ (pass : PassView Alert Call). IsRising pass.own) passes
  pub complete : end.complete ≡ true

-- a driver drove with as many callers: its outcome by the passes and the fronts of those that it gave back,
-- and the settled provider by these, which is complete if they are all
pub record IsDriven (ComesTo : List (PassView Alert Call) → List (FrontView EntryView) → Type 0)
    (callers : ℕ) (end : Settled) : Type 0 where
  pub passes : List (PassView Alert Call)
  pub fronts : List (FrontView EntryView)
  pub count : length fronts ≡ length passes
  pub comes_to : ComesTo passes fronts
  pub settled : IsSettledFrom passes fronts end
  pub rising : All (λ (pass : PassView Alert Call). IsRising pass.own) passes
  pub complete : length passes ≡ callers → end.complete ≡ true

-- the outcome of each caller, by its index and its front, or whatever is known of it
pub record AreOutcomes {C O : Type 0} (ComesTo : ℕ → C → O → Type 0) (callers : List C) (outcomes : List O)
    : Type 0 where
  pub count : length outcomes ≡ length callers
  pub each : (index : ℕ) (caller : C) (outcome : O) → index < length callers
      → ComesTo index (get_or callers index caller) (get_or outcomes index outcome)

-- the outcome of each thread of a crew, by its index and by what its caller posted and saw
abbrev pub AreCrewOutcomes : {O : Type 0} → (ℕ → PassView Alert Call → FrontView EntryView → O → Type 0)
    → List (PassView Alert Call × FrontView EntryView) → List O → Type 0
AreCrewOutcomes ComesTo callers outcomes = AreOutcomes (λ (index : ℕ)
    (one : PassView Alert Call × FrontView EntryView). ComesTo index one.0 one.1) callers outcomes

-- a crew worked with as many callers: the outcome of each thread by the turns that were taken and by what
-- its caller posted and saw, and the settled provider by all of them
pub record IsCrewRun {O : Type 0} (ComesTo : List (FrontView EntryView) → ℕ → PassView Alert Call
    → FrontView EntryView → O → Type 0) (count : ℕ) (outcomes : List O) (end : Settled) : Type 0 where
  pub turns : List (FrontView EntryView)
  pub callers : List (PassView Alert Call × FrontView EntryView)
  pub number : length callers ≡ count
  pub comes_to : AreCrewOutcomes (ComesTo turns) callers outcomes
  pub settled : IsSettledFrom (map (λ (one : PassView Alert Call × FrontView EntryView). one.0) callers)
      (map (λ (one : PassView Alert Call × FrontView EntryView). one.1) callers) end
  pub rising : All (λ (one : PassView Alert Call × FrontView EntryView). IsRising one.0.own) callers
  pub complete : end.complete ≡ true
