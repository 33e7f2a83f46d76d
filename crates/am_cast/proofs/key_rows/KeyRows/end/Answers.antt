use Rattle.am_cast.proofs.KeyRows.{all_empty}
use Rattle.am_cast.proofs.key_rows.KeyRows.end.Goals as goal
use Rattle.std.proofs.Common.{arith}

pub loop-bucket-init : goal.loop-bucket-init
loop-bucket-init g c = grind (arith, all_empty)
