use Rattle.std.proofs.Common.{◌<◌, length}
use Rattle.am_cast_tests.proofs.threads.batch_of.Given as goal

abbrev pub invariant-loop-more : goal.invariant-loop-more
invariant-loop-more l = 0 < length l.batch.items
