use Rattle.std.proofs.Common.{◌≡◌, ◌+◌, ◌≤◌, [], length, vec_len, vec_capacity}
use Rattle.std.specs.List.{All}
use Rattle.std.specs.Vec.Iter.{into_iter_items}
use Rattle.am_provider.specs.Callers.{IsNewCaller}
use Rattle.am_provider.proofs.caller.deal.Given as goal

abbrev pub invariant-loop-pass : goal.invariant-loop-pass
invariant-loop-pass g l = record {
  front : l.front ≡ record { seen = []; made = []; parts = length (into_iter_items l.pass-iterator); seat = l.front.seat; looks = 0 };
  rest : All (λ pass. pass ≡ record { noted = []; own = [] }) (into_iter_items l.pass-iterator);
  dealt : All (λ caller. IsNewCaller caller.pass caller.front) l.dealt.items;
  count : length l.dealt.items + length (into_iter_items l.pass-iterator) ≡ length l.fn.passes.items;
  room : vec_len l.dealt + length (into_iter_items l.pass-iterator) ≤ vec_capacity l.dealt;
}
