use Rattle.std.proofs.Common.{rules, ◌≡◌, ◌∷◌, [], length, None, ap, arith}
use Rattle.std.specs.Vec.Iter.{into_iter_items, into_iter_len}
use Rattle.am_provider.proofs.Lists.{all_last, empty}
use Rattle.sinnoraku.proofs.Outcomes.{ended_plain, made_step}
use Rattle.sinnoraku.proofs.seat.seat_all.Goals as goal

pub loop-caller-preserved : goal.loop-caller-preserved
loop-caller-preserved g c =
    let rest = into_iter_items c.next.new.self in
    let iter = into_iter_items c.loop-caller.caller-iterator in
    let step : into_iter_items c.loop-caller.caller-iterator ≡ c.in-Some.caller ∷ into_iter_items c.next.new.self = search rules in
    let left : into_iter_len c.next.new.self ≡ length (into_iter_items c.next.new.self) = search rules in
    let known = c.loop-caller.invariant in
    record {
      done = made_step (λ seat. seat.client.caller) c.loop-caller.seats.items (record { client = c.new.result; outcome = None }) _ c.in-Some.caller rest iter _ c.push_reserved.ensures.items c.new.ensures.caller step known.done;
      limits = all_last (λ seat. seat.client.limits ≡ c.args.limits) (record { client = c.new.result; outcome = None }) c.loop-caller.seats.items _ c.push_reserved.ensures.items known.limits c.new.ensures.limits;
      room = omega (arith, known.room, ap length step, c.push_reserved.ensures.len, c.push_reserved.ensures.capacity);
      left = left;
    }

pub returns-clause-callers : goal.returns-clause-callers
returns-clause-callers g c =
    let none : into_iter_len c.loop-caller.caller-iterator ≡ 0 = search rules in
    let nil : into_iter_items c.loop-caller.caller-iterator ≡ [] = empty _ (omega (arith, none, c.loop-caller.invariant.left)) in
    ended_plain _ (into_iter_items c.loop-caller.caller-iterator) _ nil c.loop-caller.invariant.done
