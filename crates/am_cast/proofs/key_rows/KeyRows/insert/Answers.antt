use Rattle.am_cast.proofs.KeyRows.{insert_sorted, insert_here, insert_others, index_is}
use Rattle.am_cast.proofs.key_rows.KeyRows.insert.Goals as goal
use Rattle.std.proofs.Common.{arith}

pub invariant_of-self : goal.invariant_of-self
invariant_of-self g c = grind (arith, insert_sorted, index_is)

pub returns-clause-here : goal.returns-clause-here
returns-clause-here g c = grind (arith, insert_here, index_is)

pub returns-clause-others : goal.returns-clause-others
returns-clause-others g c p ne = grind (arith, insert_others, index_is)
