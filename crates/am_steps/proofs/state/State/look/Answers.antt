use Rattle.std.proofs.Common.{◌≡◌, ◌<◌, ◌∙◌, refl, arith, length}
use Rattle.am_steps.specs.declared.event.Event.TheVariants as does
use Rattle.am_steps.specs.States.{core_of}
use Rattle.am_steps.specs.inside.Fields.{fields_view}
use Rattle.am_steps.specs.inside.LaneRows.{after_look}
use Rattle.am_steps.proofs.Common.{len_is}
use Rattle.am_steps.proofs.LaneRows.{decide_look}
use Rattle.am_steps.proofs.Answers.{applied}
use Rattle.am_steps.proofs.state.State.look.Goals as goal

pub invariant_of-self : goal.invariant_of-self
invariant_of-self c = let s = fields_view c.self.inside in let l = c.args.lane in let fits = c.if-lane-len.false in let inside : l < length c.self.inside.lanes.items = omega (arith, fits, c.len.ensures, len_is c.self.inside.lanes) in
    let length-n = c.len-2.result in let length-is : length-n ≡ length c.self.inside.log.items = c.len-2.ensures ∙ len_is c.self.inside.log in
    (applied s s refl (does.Look l) l (after_look length-n c.self.inside.closed) c.index_mut.result.now c.look.new.self c.look.result c.self.invariant inside c.index_mut.ensures.value (decide_look (core_of s) l length-n length-is) c.look.ensures).1

pub returns : goal.returns
returns c = let s = fields_view c.self.inside in let l = c.args.lane in let fits = c.if-lane-len.false in let inside : l < length c.self.inside.lanes.items = omega (arith, fits, c.len.ensures, len_is c.self.inside.lanes) in
    let length-n = c.len-2.result in let length-is : length-n ≡ length c.self.inside.log.items = c.len-2.ensures ∙ len_is c.self.inside.log in
    (applied s c.args.self.now c.self.view_is (does.Look l) l (after_look length-n c.self.inside.closed) c.index_mut.result.now c.look.new.self c.look.result c.self.invariant inside c.index_mut.ensures.value (decide_look (core_of s) l length-n length-is) c.look.ensures).0
