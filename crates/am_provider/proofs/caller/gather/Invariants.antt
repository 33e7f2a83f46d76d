use Rattle.std.proofs.Common.{◌≡◌, ◌+◌, ◌++◌, length, map}
use Rattle.std.specs.List.{All}
use mathlib.Core.List.{IsPrefix}
use Rattle.am_provider.specs.Rising.{IsRising}
use Rattle.am_provider.specs.Settling.{own_of, made_of}
use Rattle.am_provider.proofs.caller.gather.Given as goal

abbrev pub invariant-loop-next : goal.invariant-loop-next
invariant-loop-next g l = record {
  same : l.history ≡ l.fn.history;
  seen : l.front.seen ≡ l.fn.history;
  made : l.front.made ++ made_of (map (λ caller. caller.front) l.left.items) ≡ made_of (map (λ caller. caller.front) l.fn.callers.items);
  parts : l.front.parts + length l.left.items ≡ length l.fn.callers.items;
  own : l.passes.own ++ own_of (map (λ caller. caller.pass) l.left.items) ≡ own_of (map (λ caller. caller.pass) l.fn.callers.items);
  count : l.passes.parts + length l.left.items ≡ length l.fn.callers.items;
  prefixes : All (λ caller. IsPrefix caller.front.seen l.fn.history) l.left.items → All (λ caller. IsPrefix caller.front.seen l.fn.history) l.fn.callers.items;
  rising : All (λ caller. IsRising caller.pass.own) l.left.items → All (λ caller. IsRising caller.pass.own) l.fn.callers.items;
}

abbrev pub decreases-loop-next : goal.decreases-loop-next
decreases-loop-next g l = goal.left-loop-next g l
