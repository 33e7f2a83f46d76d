use Rattle.am_cast.proofs.Cursors.{found_moves}
use Rattle.am_cast.proofs.cursor.Cursor.advance_past.Goals as goal
use Rattle.std.proofs.Common.{arith}

pub returns-clause-moves : goal.returns-clause-moves
returns-clause-moves g c = grind (arith, found_moves)
