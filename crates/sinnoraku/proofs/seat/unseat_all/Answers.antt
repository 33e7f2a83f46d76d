use Rattle.std.proofs.Common.{rules, ◌≡◌, ◌∙◌, ◌∷◌, ◌++◌, [], length, ap, arith}
use Rattle.std.specs.Option.{IsSome}
use Rattle.std.specs.Vec.Iter.{into_iter_items, into_iter_len}
use Rattle.am_provider.proofs.Lists.{all_head, all_tail, empty}
use Rattle.sinnoraku.proofs.Outcomes.{outcomes_step, callers_step, ended, none_of}
use Rattle.sinnoraku.proofs.seat.unseat_all.Goals as goal

pub loop-seat-preserved : goal.loop-seat-preserved
loop-seat-preserved g c =
    let rest = into_iter_items c.next.new.self in
    let iter = into_iter_items c.loop-seat.seat-iterator in
    let step : into_iter_items c.loop-seat.seat-iterator ≡ c.in-Some.seat ∷ into_iter_items c.next.new.self = search rules in
    let known = c.loop-seat.invariant in
    let left : into_iter_len c.next.new.self ≡ length (into_iter_items c.next.new.self) = search rules in
    record {
      outcomes = outcomes_step (λ seat. seat.outcome) c.loop-seat.outcomes.items c.in-Some-outcome.outcome _ c.in-Some.seat rest iter _ c.push_reserved-in-Some-outcome.ensures.items c.in-Some-outcome.is step known.outcomes;
      callers = callers_step (λ seat. seat.client.caller) c.loop-seat.callers.items _ c.in-Some.seat rest iter _ (c.push_reserved.ensures.items ∙ ap (λ caller. c.loop-seat.callers.items ++ caller ∷ []) c.into_caller.ensures) step known.callers;
      rest = all_tail (λ seat. IsSome seat.outcome) c.in-Some.seat rest iter step known.rest;
      outcomes_room = omega (arith, known.outcomes_room, ap length step, c.push_reserved-in-Some-outcome.ensures.len, c.push_reserved-in-Some-outcome.ensures.capacity);
      callers_room = omega (arith, known.callers_room, ap length step, c.push_reserved.ensures.len, c.push_reserved.ensures.capacity);
      left = left;
    }

pub unreachable-requires : goal.unreachable-requires
unreachable-requires g c =
    let step : into_iter_items c.loop-seat.seat-iterator ≡ c.in-Some.seat ∷ into_iter_items c.next.new.self = search rules in
    none_of c.in-Some.seat.outcome c.in-None-outcome.is (all_head (λ seat. IsSome seat.outcome) c.in-Some.seat (into_iter_items c.next.new.self) (into_iter_items c.loop-seat.seat-iterator) step c.loop-seat.invariant.rest)

pub returns-clause-outcomes : goal.returns-clause-outcomes
returns-clause-outcomes g c =
    let none : into_iter_len c.loop-seat.seat-iterator ≡ 0 = search rules in
    let nil : into_iter_items c.loop-seat.seat-iterator ≡ [] = empty _ (omega (arith, none, c.loop-seat.invariant.left)) in
    ended (λ seat. seat.outcome) _ (into_iter_items c.loop-seat.seat-iterator) _ nil c.loop-seat.invariant.outcomes

pub returns-clause-callers : goal.returns-clause-callers
returns-clause-callers g c =
    let none : into_iter_len c.loop-seat.seat-iterator ≡ 0 = search rules in
    let nil : into_iter_items c.loop-seat.seat-iterator ≡ [] = empty _ (omega (arith, none, c.loop-seat.invariant.left)) in
    ended (λ seat. seat.client.caller) _ (into_iter_items c.loop-seat.seat-iterator) _ nil c.loop-seat.invariant.callers
