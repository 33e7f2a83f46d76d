use Rattle.std.proofs.Common.{◌<◌, length}
use Rattle.am_bench.proofs.log.batch_of.Given as goal

abbrev pub invariant-loop-at : goal.invariant-loop-at
invariant-loop-at g l = 0 < length l.batch.items
