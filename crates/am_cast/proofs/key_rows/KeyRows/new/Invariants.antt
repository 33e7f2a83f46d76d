use Rattle.std.proofs.Common.{◌≡◌, ℕ, [], get_or, vec_len, vec_capacity}
use Rattle.am_cast.specs.inside.KeyRows.{no_bucket}
use Rattle.am_cast.proofs.key_rows.KeyRows.new.Given as goal

abbrev pub invariant-loop-remainder : goal.invariant-loop-remainder
invariant-loop-remainder g l = (vec_len l.buckets ≡ l._remainder) × (vec_capacity l.buckets ≡ l.places) × ((n : ℕ) → (get_or l.buckets.items n no_bucket).rows ≡ [])
