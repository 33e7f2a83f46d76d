use Rattle.am_cast.proofs.KeyRows.{changed_sorted}
use Rattle.am_cast.proofs.key_rows.KeyRows.bring.Goals as goal
use Rattle.std.proofs.Common.{arith}

pub invariant_of-self : goal.invariant_of-self
invariant_of-self g c = grind (arith, changed_sorted)
