use Rattle.std.proofs.Common.{◌<◌, ◌++◌, ◌∷◌, ◌∙◌, [], length, sym, ap, subst, arith, vec_len}
use Rattle.am_steps.specs.declared.lane.Lane.TheVariants.{Idle}
use Rattle.am_steps.proofs.Common.{len_is}
use Rattle.std.proofs.lemmas.List.{length-replicate}
use Rattle.std.proofs.lemmas.Grind.{replicate_next}
use Rattle.am_steps.proofs.state.idle_lanes.Goals as goal

pub push_reserved-requires : goal.push_reserved-requires
push_reserved-requires c = let i = c.loop-number.invariant in let len = len_is c.loop-number.made in let long = ap length i.0 ∙ length-replicate c.loop-number._number Idle in let more = c.loop-number-test.true in
    subst (λ n. vec_len c.loop-number.made < n) (sym i.1) (omega arith)

pub loop-number-preserved : goal.loop-number-preserved
loop-number-preserved c = let i = c.loop-number.invariant in (c.push_reserved.ensures.items ∙ ap (λ l. l ++ Idle ∷ []) i.0 ∙ sym (replicate_next c.loop-number._number Idle), c.push_reserved.ensures.capacity ∙ i.1)
