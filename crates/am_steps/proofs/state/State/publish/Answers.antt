use Rattle.std.proofs.Common.{◌∙◌, ℕ, List, refl, sym, subst}
use Rattle.std.specs.List.{AllPass}
use Rattle.std.proofs.lemmas.Bool.{false≢true}
use Rattle.am_steps.specs.declared.lane.Lane.{Lane}
use Rattle.am_steps.specs.States.{core_of}
use Rattle.am_steps.specs.Steps.{MayGrow}
use Rattle.am_steps.specs.inside.LaneRows.{leaves_room}
use Rattle.am_steps.specs.inside.Fields.{fields_view}
use Rattle.am_steps.proofs.Common.{len_is}
use Rattle.am_steps.proofs.Answers.{room, from_room, no_room, publishes, publish_possible}
use Rattle.am_steps.proofs.state.State.publish.Goals as goal

pub returns-then-not-has_room-clause-applies : goal.returns-then-not-has_room-clause-applies
returns-then-not-has_room-clause-applies c = let s = fields_view c.self.inside in let long = c.len-length.ensures ∙ len_is c.self.inside.log in (
  refl,
  no_room s c.args.self.now c.self.view_is c.args.name (λ has. false≢true (sym c.if-not-has_room.true ∙
      c.has_room.ensures.1 (subst (λ (p : ℕ × List (Lane ℕ)). AllPass (leaves_room c.self.inside.places p.0) p.1) (λ i. (sym long i, sym c.as_slice.ensures.value i)) (from_room s has)))),
)

pub invariant_of-self-2 : goal.invariant_of-self-2
invariant_of-self-2 c = let s = fields_view c.self.inside in let long = c.len-length.ensures ∙ len_is c.self.inside.log in
    let has : MayGrow (core_of s) = room s (subst (λ (p : ℕ × List (Lane ℕ)). AllPass (leaves_room c.self.inside.places p.0) p.1) (λ i. (long i, c.as_slice.ensures.value i)) (c.has_room.ensures.0 c.if-not-has_room.false)) in
    (publishes s s refl c.args.name c.push.new.self.items c.self.invariant c.if-self.false has c.in_ok-push.ensures.items).1

pub returns-clause-applies : goal.returns-clause-applies
returns-clause-applies c = let s = fields_view c.self.inside in let long = c.len-length.ensures ∙ len_is c.self.inside.log in
    let has : MayGrow (core_of s) = room s (subst (λ (p : ℕ × List (Lane ℕ)). AllPass (leaves_room c.self.inside.places p.0) p.1) (λ i. (long i, c.as_slice.ensures.value i)) (c.has_room.ensures.0 c.if-not-has_room.false)) in
    (publishes s c.args.self.now c.self.view_is c.args.name c.push.new.self.items c.self.invariant c.if-self.false has c.in_ok-push.ensures.items).0

pub returns-in_err-push-clause-possible : goal.returns-in_err-push-clause-possible
returns-in_err-push-clause-possible c = let s = fields_view c.self.inside in let long = c.len-length.ensures ∙ len_is c.self.inside.log in
    let has : MayGrow (core_of s) = room s (subst (λ (p : ℕ × List (Lane ℕ)). AllPass (leaves_room c.self.inside.places p.0) p.1) (λ i. (long i, c.as_slice.ensures.value i)) (c.has_room.ensures.0 c.if-not-has_room.false)) in
    publish_possible s c.args.self.now c.self.view_is c.args.name c.from_residual.result c.self.invariant c.if-self.false has
