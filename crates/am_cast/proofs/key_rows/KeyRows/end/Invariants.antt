use Rattle.std.proofs.Common.{◌≡◌, ℕ, [], get_or, vec_len}
use Rattle.am_cast.specs.inside.KeyRows.{no_bucket}
use Rattle.am_cast.proofs.key_rows.KeyRows.end.Given as goal

abbrev pub invariant-loop-bucket : goal.invariant-loop-bucket
invariant-loop-bucket g l = (n : ℕ) → (get_or l.buckets.items n no_bucket).rows ≡ []

abbrev pub decreases-loop-bucket : goal.decreases-loop-bucket
decreases-loop-bucket g l = vec_len l.buckets
