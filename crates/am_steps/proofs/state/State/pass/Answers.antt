use Rattle.std.proofs.Common.{◌≡◌, ◌<◌, ◌∙◌, refl, sym, ap, arith, length, Some}
use Rattle.am_steps.specs.declared.event.Event.TheVariants as does
use Rattle.am_steps.specs.declared.lane.Lane.TheVariants.{Idle}
use Rattle.am_steps.specs.States.{core_of}
use Rattle.am_steps.specs.inside.Fields.{fields_view}
use Rattle.am_steps.specs.inside.LaneRows.{after_pass, place_in_hand}
use Rattle.std.proofs.lemmas.List.{get_or_default}
use Rattle.am_steps.proofs.Common.{len_is}
use Rattle.am_steps.proofs.LaneRows.{decide_pass}
use Rattle.am_steps.proofs.Answers.{applied_maybe, named, pass_possible}
use Rattle.am_steps.proofs.state.State.pass.Goals as goal

pub invariant_of-self : goal.invariant_of-self
invariant_of-self c = let s = fields_view c.self.inside in let l = c.args.lane in let x = c.index-name.result.now in let fits = c.if-lane-len.false in let inside : l < length c.self.inside.lanes.items = omega (arith, fits, c.len.ensures, len_is c.self.inside.lanes) in
    let held : place_in_hand ((core_of s).lane l) ≡ Some c.in-Some.place = ap place_in_hand (get_or_default c.self.inside.lanes.items l Idle c.index.result.now inside ∙ sym c.index.ensures) ∙ sym c.in-Some.ensures in
    let name = named s l c.in-Some.place x c.self.invariant held c.index-name.ensures in
    (applied_maybe s s refl (does.Pass l) l (after_pass x) c.index_mut.result.now c.pass.new.self c.pass.result c.self.invariant inside c.index_mut.ensures.value (λ v e. decide_pass (core_of s) l x v (name v e) e) c.pass.ensures.passed c.pass.ensures.err).1

pub returns-clause-applies : goal.returns-clause-applies
returns-clause-applies c = let s = fields_view c.self.inside in let l = c.args.lane in let x = c.index-name.result.now in let fits = c.if-lane-len.false in let inside : l < length c.self.inside.lanes.items = omega (arith, fits, c.len.ensures, len_is c.self.inside.lanes) in
    let held : place_in_hand ((core_of s).lane l) ≡ Some c.in-Some.place = ap place_in_hand (get_or_default c.self.inside.lanes.items l Idle c.index.result.now inside ∙ sym c.index.ensures) ∙ sym c.in-Some.ensures in
    let name = named s l c.in-Some.place x c.self.invariant held c.index-name.ensures in
    (applied_maybe s c.args.self.now c.self.view_is (does.Pass l) l (after_pass x) c.index_mut.result.now c.pass.new.self c.pass.result c.self.invariant inside c.index_mut.ensures.value (λ v e. decide_pass (core_of s) l x v (name v e) e) c.pass.ensures.passed c.pass.ensures.err).0

pub returns-clause-possible : goal.returns-clause-possible
returns-clause-possible c = let s = fields_view c.self.inside in let l = c.args.lane in let fits = c.if-lane-len.false in let inside : l < length c.self.inside.lanes.items = omega (arith, fits, c.len.ensures, len_is c.self.inside.lanes) in
    let held : place_in_hand ((core_of s).lane l) ≡ Some c.in-Some.place = ap place_in_hand (get_or_default c.self.inside.lanes.items l Idle c.index.result.now inside ∙ sym c.index.ensures) ∙ sym c.in-Some.ensures in
    pass_possible s c.args.self.now c.self.view_is l c.in-Some.place c.index-name.result.now c.pass.result c.self.invariant inside held c.index-name.ensures
