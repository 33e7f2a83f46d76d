use Rattle.std.proofs.Common.{◌≡◌, ◌+◌, ◌≤◌, ◌++◌, Some, length, map, vec_len, vec_capacity}
use Rattle.std.specs.List.{All}
use Rattle.std.specs.Option.{IsSome}
use Rattle.std.specs.Vec.Iter.{into_iter_items, into_iter_len}
use Rattle.sinnoraku.proofs.seat.unseat_all.Given as goal

abbrev pub invariant-loop-seat : goal.invariant-loop-seat
invariant-loop-seat g l = record {
  outcomes : map (λ outcome. Some outcome) l.outcomes.items ++ map (λ seat. seat.outcome) (into_iter_items l.seat-iterator) ≡ map (λ seat. seat.outcome) l.fn.seats.items;
  callers : l.callers.items ++ map (λ seat. seat.client.caller) (into_iter_items l.seat-iterator) ≡ map (λ seat. seat.client.caller) l.fn.seats.items;
  rest : All (λ seat. IsSome seat.outcome) (into_iter_items l.seat-iterator);
  outcomes_room : vec_len l.outcomes + length (into_iter_items l.seat-iterator) ≤ vec_capacity l.outcomes;
  callers_room : vec_len l.callers + length (into_iter_items l.seat-iterator) ≤ vec_capacity l.callers;
  left : into_iter_len l.seat-iterator ≡ length (into_iter_items l.seat-iterator);
}
