-- The order of a pass's own posts.
use Rattle.std.specs.Prelude.{ℕ, ◌<◌, ⊤, List, [], ◌∷◌}
use Rattle.am_cast.specs.declared.views.Own.{Own}
use Rattle.am_provider.specs.Batches.{Batch}

-- their places are all below this one
abbrev pub AreBelow : ℕ → List (Own Batch) → Type 0
AreBelow place [] = ⊤
AreBelow place (own ∷ others) = (own.place < place) × AreBelow place others

-- their places are all above this one
abbrev pub AreAbove : ℕ → List (Own Batch) → Type 0
AreAbove place [] = ⊤
AreAbove place (own ∷ others) = (place < own.place) × AreAbove place others

-- each has a lower place than all that were posted after it
abbrev pub IsRising : List (Own Batch) → Type 0
IsRising [] = ⊤
IsRising (own ∷ later) = AreAbove own.place later × IsRising later
