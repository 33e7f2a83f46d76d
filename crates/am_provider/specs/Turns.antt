-- What a register shows of the turns that callers take, one after another.
use Rattle.std.specs.Prelude.{◌≡◌, ℕ, List, [], ◌∷◌, ◌++◌, length}
use Rattle.std.specs.List.{All}
use mathlib.Core.List.{IsPrefix}
use Rattle.am_history.specs.Fronts.{FrontView}
use Rattle.am_provider.specs.Histories.{EntryView}

-- a caller sees more of the history, and makes no call
abbrev pub SeesMore : FrontView EntryView → FrontView EntryView → Type 0
SeesMore was is = IsPrefix was.seen is.seen × (is ≡ record was { seen = is.seen; looks = is.looks })

-- the turn of a number begins: as many were taken, and its caller has seen what the callers of these had
pub record IsBegun (at : ℕ) (saw sees : List (FrontView EntryView)) (was is : FrontView EntryView)
    : Type 0 where
  pub kept : IsPrefix saw sees
  pub count : length sees ≡ at
  pub shown : All (λ (turn : FrontView EntryView). IsPrefix turn.seen is.seen) sees
  pub more : SeesMore was is

-- the turn of a number ends: as many were taken before it, and it is added to them
pub record IsEnded (at : ℕ) (saw sees : List (FrontView EntryView)) (was is : FrontView EntryView)
    : Type 0 where
  pub before : List (FrontView EntryView)
  pub kept : IsPrefix saw before
  pub count : length before ≡ at
  pub added : sees ≡ before ++ is ∷ []
  pub more : SeesMore was is
