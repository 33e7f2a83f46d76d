use Rattle.am_cast.proofs.KeyRows.{row_found}
use Rattle.am_cast.proofs.key_rows.bucket.Bucket.keys.Goals as goal
use Rattle.std.proofs.Common.{arith}

pub returns-in-Some : goal.returns-in-Some
returns-in-Some g c = grind (arith, row_found)
