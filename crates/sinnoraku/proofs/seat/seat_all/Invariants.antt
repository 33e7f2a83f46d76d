use Rattle.std.proofs.Common.{◌≡◌, ◌+◌, ◌≤◌, ◌++◌, length, map, vec_len, vec_capacity}
use Rattle.std.specs.List.{All}
use Rattle.std.specs.Vec.Iter.{into_iter_items, into_iter_len}
use Rattle.sinnoraku.proofs.seat.seat_all.Given as goal

abbrev pub invariant-loop-caller : goal.invariant-loop-caller
invariant-loop-caller g l = record {
  done : map (λ seat. seat.client.caller) l.seats.items ++ into_iter_items l.caller-iterator ≡ l.fn.callers.items;
  limits : All (λ seat. seat.client.limits ≡ l.limits) l.seats.items;
  room : vec_len l.seats + length (into_iter_items l.caller-iterator) ≤ vec_capacity l.seats;
  left : into_iter_len l.caller-iterator ≡ length (into_iter_items l.caller-iterator);
}
