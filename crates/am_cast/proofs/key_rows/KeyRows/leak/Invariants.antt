use Rattle.std.proofs.Common.{vec_len}
use Rattle.am_cast.proofs.key_rows.KeyRows.leak.Given as goal

abbrev pub decreases-loop-bucket : goal.decreases-loop-bucket
decreases-loop-bucket g l = vec_len l.buckets
