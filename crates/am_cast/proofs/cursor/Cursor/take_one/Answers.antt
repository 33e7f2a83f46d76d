use Rattle.am_cast.proofs.Cursors.{takes_first}
use Rattle.am_cast.proofs.cursor.Cursor.take_one.Goals as goal
use Rattle.std.proofs.Common.{arith}

pub returns-then-take-clause-takes : goal.returns-then-take-clause-takes
returns-then-take-clause-takes g c = grind (arith, takes_first)
