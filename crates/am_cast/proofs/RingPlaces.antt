-- The index of a place that is a little before another.
use Rattle.std.proofs.Common.{◌≡◌, ℕ, ◌+◌, ◌-◌, ◌*◌, ◌/◌, ◌%◌, ◌<◌, ◌≤◌, arith, ap, sym, ◌∙◌}
use Rattle.std.proofs.Math.Nat.{mod-lt}
use Rattle.std.proofs.lemmas.Nat.{mod-mul-add, div-add-mod'}
use Rattle.am_cast.specs.inside.RingPlaces.{IsRingPlace}
use Rattle.am_cast.proofs.Ends.{suc_times}

module _ (number index places place : ℕ) (is : IsRingPlace number index places) where
  below : index < places
  below = let at = is.at in let small = mod-lt number is.some.0 in omega arith

  -- so many turns of the ring, and the rest
  of_turns : (turns rest : ℕ) → place ≡ turns * places + rest → rest < places → rest ≡ place % places
  of_turns turns rest e small = sym (ap (λ (n : ℕ). n % places) e ∙ mod-mul-add turns places rest small)

  -- in the same turn
  pub index_near : place ≤ number → number - place ≤ index → index - (number - place) ≡ place % places
  index_near before near =
      let turns : ℕ = number / places in let parts : turns * places + number % places ≡ number = div-add-mod' number places in let at = is.at in let small = below in
      of_turns turns (index - (number - place)) (omega arith) (omega arith)

  -- in the turn before
  pub index_before : place ≤ number → index < number - place → number - place ≤ places → index + places - (number - place) ≡ place % places
  index_before before far near = grind (arith, div-add-mod', below, suc_times, of_turns)
