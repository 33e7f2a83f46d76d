use Rattle.std.proofs.Common.{◌<◌, refl, arith, length}
use Rattle.am_steps.specs.declared.event.Event.TheVariants as does
use Rattle.am_steps.specs.States.{core_of}
use Rattle.am_steps.specs.inside.Fields.{fields_view}
use Rattle.am_steps.specs.inside.LaneRows.{after_take}
use Rattle.am_steps.proofs.Common.{len_is}
use Rattle.am_steps.proofs.LaneRows.{decide_take}
use Rattle.am_steps.proofs.Answers.{applied}
use Rattle.am_steps.proofs.state.State.take.Goals as goal

pub invariant_of-self : goal.invariant_of-self
invariant_of-self c = let s = fields_view c.self.inside in let l = c.args.lane in let fits = c.if-lane-len.false in let inside : l < length c.self.inside.lanes.items = omega (arith, fits, c.len.ensures, len_is c.self.inside.lanes) in
    (applied s s refl (does.Take l) l after_take c.index_mut.result.now c.take.new.self c.take.result c.self.invariant inside c.index_mut.ensures.value (decide_take (core_of s) l) c.take.ensures).1

pub returns : goal.returns
returns c = let s = fields_view c.self.inside in let l = c.args.lane in let fits = c.if-lane-len.false in let inside : l < length c.self.inside.lanes.items = omega (arith, fits, c.len.ensures, len_is c.self.inside.lanes) in
    (applied s c.args.self.now c.self.view_is (does.Take l) l after_take c.index_mut.result.now c.take.new.self c.take.result c.self.invariant inside c.index_mut.ensures.value (decide_take (core_of s) l) c.take.ensures).0
