use Rattle.std.proofs.Common.{◌≡◌, ◌<◌, ◌↔◌, sym, subst, arith, length, true}
use Rattle.std.specs.List.{AllPass}
use Rattle.am_steps.specs.States.{core_of}
use Rattle.am_steps.specs.inside.LaneRows.{keeps_none}
use Rattle.am_steps.specs.Needed.{IsFreed}
use Rattle.am_steps.specs.inside.Fields.{fields_view}
use Rattle.am_steps.proofs.Common.{len_is}
use Rattle.am_steps.proofs.Answers.{all_gone_freed, freed_all_gone}
use Rattle.am_steps.proofs.state.State.freed.Goals as goal

pub returns-then-place-len : goal.returns-then-place-len
returns-then-place-len c = let s = fields_view c.self.inside in let i = c.args.place in let few = c.if-place-len.true in let inside : i < length c.self.inside.log.items = omega (arith, few, c.len.ensures, len_is c.self.inside.log) in
    let lanes : c.as_slice.result.now ≡ c.self.inside.lanes.items = c.as_slice.ensures.value in
    subst (λ o. (c.no_key_is_kept.result ≡ true) ↔ IsFreed (core_of o) i) c.self.view_is (
      (λ e. all_gone_freed s i inside (subst (AllPass (keeps_none i)) lanes (c.no_key_is_kept.ensures.0 e))),
      (λ f. c.no_key_is_kept.ensures.1 (subst (AllPass (keeps_none i)) (sym lanes) (freed_all_gone s i f))),
    )
