use Rattle.std.proofs.Common.{◌≡◌, ◌+◌, ◌≤◌, ◌++◌, length, map, vec_len, vec_capacity}
use Rattle.std.specs.Vec.Iter.{into_iter_items, into_iter_len}
use Rattle.sinnoraku.proofs.clients.callers_of.Given as goal

abbrev pub invariant-loop-client : goal.invariant-loop-client
invariant-loop-client g l = record {
  done : l.callers.items ++ map (λ client. client.caller) (into_iter_items l.client-iterator) ≡ map (λ client. client.caller) l.fn.clients.items;
  room : vec_len l.callers + length (into_iter_items l.client-iterator) ≤ vec_capacity l.callers;
  left : into_iter_len l.client-iterator ≡ length (into_iter_items l.client-iterator);
}
