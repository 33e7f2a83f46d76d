use Rattle.std.proofs.Common.{◌-◌, arith}
use Rattle.am_segment.proofs.Shares.{range-rest}
use Rattle.am_segment.proofs.key_run.KeyRun.split_first.Goals as goal

pub invariant_of-run : goal.invariant_of-run
invariant_of-run g c = grind (arith, range-rest)
