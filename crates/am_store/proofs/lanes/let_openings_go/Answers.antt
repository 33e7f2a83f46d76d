use Rattle.std.proofs.Common.{◌≡◌, ℕ, zero, suc, List, [], ◌∷◌, get_or, set, Option, sym, ap, ◌∙◌, refl}
use Rattle.std.specs.Option.{option_map}
use Rattle.am_store.specs.declared.lanes.OpenLane.{OpenLane}
use Rattle.am_store.specs.Lanes.{all_subscribed_at, subscribed_at}
use Rattle.am_store.proofs.lanes.let_openings_go.Goals.{in-Some-Ok, in_default+in-Ok-1, in_default+in-Err-1}
use Rattle.am_store.proofs.lanes.let_openings_go.Goals as goal

-- a lane that was subscribed when the one was that it replaces
replaced : (lanes : List (Option OpenLane)) (lane : ℕ) (was is other : Option OpenLane) → was ≡ get_or lanes lane other → option_map subscribed_at is ≡ option_map subscribed_at was
    → all_subscribed_at (set lanes lane is) ≡ all_subscribed_at lanes
replaced [] lane was is other here same = refl
replaced (one ∷ lanes) zero was is other here same = ap (λ first. first ∷ all_subscribed_at lanes) (same ∙ ap (option_map subscribed_at) here)
replaced (one ∷ lanes) (suc lane) was is other here same = ap (λ rest. option_map subscribed_at one ∷ rest) (replaced lanes lane was is other here same)

pub loop-lane-preserved : goal.loop-lane-preserved
loop-lane-preserved c =
    elim c.match-lanes-lane.branch [
      | in-Some-Ok w ↦ ap all_subscribed_at w.lanes-is ∙ (replaced c.loop-lane.lanes c.loop-lane.lane _ _ c.index-lanes-lane.result (sym w.in-Some-Ok.is-0) (ap (option_map subscribed_at) w.replace.ensures.after) ∙ c.loop-lane.invariant)
      | in_default+in-Ok-1 w ↦ ap all_subscribed_at w.lanes-is ∙ c.loop-lane.invariant
      | in_default+in-Err-1 w ↦ ap all_subscribed_at w.lanes-is ∙ c.loop-lane.invariant
    ]
