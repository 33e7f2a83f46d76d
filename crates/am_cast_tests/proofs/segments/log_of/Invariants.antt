use Rattle.std.proofs.Common.{◌≡◌, vec_len, vec_capacity}
use Rattle.am_cast_tests.proofs.segments.log_of.Given as goal

abbrev pub invariant-loop : goal.invariant-loop
invariant-loop l = (vec_len l.batches ≡ l.counter) × (vec_capacity l.batches ≡ l.places)
