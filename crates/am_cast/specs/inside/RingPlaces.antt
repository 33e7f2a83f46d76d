-- A place in each lane's ring of slots.
use Rattle.std.specs.Prelude.{◌≡◌, ℕ, ◌%◌, ◌<◌, ◌≤◌}
use Rattle.am_cast.specs.declared.limits.TheConstants.{MAX_PLACES}

-- a place's number, and how many slots a ring has
pub record RingPlaceView : Type 0 where
  pub number : ℕ
  pub places : ℕ

-- the index that is kept is the place's
pub record IsRingPlace (number index places : ℕ) : Type 0 where
  pub some : (0 < places) × (places ≤ MAX_PLACES)
  pub at : index ≡ number % places
