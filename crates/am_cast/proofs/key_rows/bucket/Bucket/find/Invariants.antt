use Rattle.std.proofs.Common.{◌≡◌, drop}
use Rattle.am_cast.specs.inside.KeyRows.{find_row}
use Rattle.am_cast.proofs.key_rows.bucket.Bucket.find.Given as goal

abbrev pub invariant-loop-index : goal.invariant-loop-index
invariant-loop-index g l = find_row l.place l.self.rows ≡ find_row l.place (drop l.index l.self.rows)
