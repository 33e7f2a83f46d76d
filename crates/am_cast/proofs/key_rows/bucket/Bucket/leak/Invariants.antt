use Rattle.std.proofs.Common.{vec_len}
use Rattle.am_cast.proofs.key_rows.bucket.Bucket.leak.Given as goal

abbrev pub decreases-loop-row : goal.decreases-loop-row
decreases-loop-row g l = vec_len l.rows
