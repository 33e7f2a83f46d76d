use Rattle.std.proofs.Common.{◌<◌, refl, arith, length}
use Rattle.am_steps.specs.declared.event.Event.TheVariants as does
use Rattle.am_steps.specs.States.{core_of}
use Rattle.am_steps.specs.inside.Fields.{fields_view}
use Rattle.am_steps.specs.inside.LaneRows.{after_retire}
use Rattle.am_steps.proofs.Common.{len_is}
use Rattle.am_steps.proofs.LaneRows.{decide_retire}
use Rattle.am_steps.proofs.Answers.{applied}
use Rattle.am_steps.proofs.state.State.retire.Goals as goal

pub invariant_of-self : goal.invariant_of-self
invariant_of-self c = let s = fields_view c.self.inside in let l = c.args.lane in let fits = c.if-lane-len.false in let inside : l < length c.self.inside.lanes.items = omega (arith, fits, c.len.ensures, len_is c.self.inside.lanes) in
    (applied s s refl (does.Retire l) l after_retire c.index_mut.result.now c.retire.new.self c.retire.result c.self.invariant inside c.index_mut.ensures.value (decide_retire (core_of s) l) c.retire.ensures).1

pub returns : goal.returns
returns c = let s = fields_view c.self.inside in let l = c.args.lane in let fits = c.if-lane-len.false in let inside : l < length c.self.inside.lanes.items = omega (arith, fits, c.len.ensures, len_is c.self.inside.lanes) in
    (applied s c.args.self.now c.self.view_is (does.Retire l) l after_retire c.index_mut.result.now c.retire.new.self c.retire.result c.self.invariant inside c.index_mut.ensures.value (decide_retire (core_of s) l) c.retire.ensures).0
