use Rattle.std.proofs.Common.{◌<◌, ◌++◌, ◌∷◌, ◌∙◌, [], length, sym, ap, subst, arith, vec_len}
use Rattle.am_steps.specs.States.{new_open_lane}
use Rattle.am_steps.proofs.Common.{len_is}
use Rattle.std.proofs.lemmas.List.{length-replicate}
use Rattle.std.proofs.lemmas.Grind.{replicate_next}
use Rattle.am_steps.proofs.state.open_lanes.Goals as goal

pub push_reserved-requires : goal.push_reserved-requires
push_reserved-requires c = let i = c.loop-number.invariant in let len = len_is c.loop-number.made in let long = ap length i.0 ∙ length-replicate c.loop-number._number new_open_lane in let more = c.loop-number-test.true in
    subst (λ n. vec_len c.loop-number.made < n) (sym i.1) (omega arith)

pub loop-number-preserved : goal.loop-number-preserved
loop-number-preserved c = let i = c.loop-number.invariant in (c.push_reserved.ensures.items ∙ (λ j. i.0 j ++ c.new_open_lane.ensures j ∷ []) ∙ sym (replicate_next c.loop-number._number new_open_lane), c.push_reserved.ensures.capacity ∙ i.1)
