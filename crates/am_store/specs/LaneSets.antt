-- Sets of lanes.
use Rattle.std.specs.Prelude.{ℕ, Bool, nat_eq}
use Rattle.std.specs.Int.{bit_at}

-- whether a set has a lane: a set is a number, and lane l its bit l
abbrev pub has_lane : ℕ → ℕ → Bool
has_lane lanes lane = nat_eq (bit_at lanes lane) 1
