use Rattle.std.proofs.Common.{◌<◌, length}
use Rattle.am_bench.proofs.log.publish.Given as goal

abbrev pub invariant-loop-turn : goal.invariant-loop-turn
invariant-loop-turn g l = 0 < length l.batch.items
