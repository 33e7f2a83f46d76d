use Rattle.std.proofs.Common.{◌-◌, ◌%◌, ◌≤◌, ◌∙◌, ap, subst, sym}
use Rattle.am_cast.specs.inside.RingPlaces.{RingPlaceView}
use Rattle.am_cast.proofs.RingPlaces.{index_near, index_before}
use Rattle.am_cast.proofs.ring_place.RingPlace.index_of.Goals as goal
use Rattle.am_cast.proofs.ring_place.RingPlace.index_of.Goals.{then-back-self-2, else-back-self-2}

pub returns : goal.returns
returns c = let r = c.self.inside in let before = subst (λ (v : RingPlaceView). c.args.place ≤ v.number) (sym c.self.view_is) c.requires in let back = r.number - c.args.place in elim c.if-back-self-2.branch [
  | then-back-self-2 w ↦ ap (λ turned. turned - back) w.turned-is ∙ index_near r.number r.index r.places c.args.place c.self.invariant before w.if-back-self-2.true
  | else-back-self-2 w ↦ ap (λ turned. turned - back) w.turned-is ∙ index_before r.number r.index r.places c.args.place c.self.invariant before w.if-back-self-2.false c.if-back-self.false
] ∙ ap (λ (v : RingPlaceView). c.args.place % v.places) c.self.view_is
