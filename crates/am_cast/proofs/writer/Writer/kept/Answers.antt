use Rattle.am_cast.proofs.FreedRows.{rows_keep}
use Rattle.am_cast.proofs.writer.Writer.kept.Goals as goal
use Rattle.std.proofs.Common.{arith}

pub returns : goal.returns
returns g c = grind (arith, rows_keep)
