use Rattle.std.proofs.Common.{◌≡◌, ◌+◌, ◌++◌, length}
use Rattle.am_provider.specs.Settling.{own_of}
use Rattle.am_provider.proofs.Settling.{AreRising}
use Rattle.am_provider.proofs.pass.join_all.Given as goal

abbrev pub invariant-loop-next : goal.invariant-loop-next
invariant-loop-next g l = record {
  own : l.all.own ++ own_of l.left.items ≡ own_of l.fn.passes.items;
  parts : l.all.parts + length l.left.items ≡ length l.fn.passes.items;
  rising : AreRising l.left.items → AreRising l.fn.passes.items;
}

abbrev pub decreases-loop-next : goal.decreases-loop-next
decreases-loop-next g l = goal.left-loop-next g l
