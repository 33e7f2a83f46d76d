-- The earliest of the lanes.
use Rattle.std.proofs.Common.{◌≡◌, ℕ, zero, suc, ◌<◌, ◌≤◌, List, [], ◌∷◌, length, Option, None, Some, refl, arith}
use Rattle.std.specs.Option.{IfSome}
use Rattle.am_store.specs.declared.lanes.OpenLane.{OpenLane}
use Rattle.am_store.specs.Lanes.{lane_at, IsEarliest}

-- the earliest of the first lanes, or none where none of them is open
pub record IsBest (lanes : List (Option OpenLane)) (end : ℕ) (first : Option OpenLane) : Type 0 where
  pub there : (one : OpenLane) → first ≡ Some one → (lane : ℕ) × (lane_at lanes lane ≡ Some one)
  pub earliest : (one : OpenLane) → first ≡ Some one → (lane : ℕ) (other : OpenLane) → lane < end → lane_at lanes lane ≡ Some other → one.at ≤ other.at
  pub none : first ≡ None → (lane : ℕ) → lane < end → lane_at lanes lane ≡ None

pub lane_here : (lanes : List (Option OpenLane)) (lane : ℕ) (one : OpenLane) → lane_at lanes lane ≡ Some one → lane < length lanes
lane_here [] lane one e = (cc)
lane_here (x ∷ lanes) zero one e = omega arith
lane_here (x ∷ lanes) (suc lane) one e = let h = lane_here lanes lane one e in omega arith

if_all : (o : Option OpenLane) (P : OpenLane → Type 0) → ((x : OpenLane) → o ≡ Some x → P x) → IfSome o P
if_all None P f = tt
if_all (Some x) P f = f x refl

-- the best of all lanes is the earliest
pub best_earliest : (lanes : List (Option OpenLane)) (end : ℕ) (one : OpenLane) → length lanes ≤ end → IsBest lanes end (Some one) → IsEarliest lanes one
best_earliest lanes end one all best = grind (arith, if_all, lane_here)
