use Rattle.std.proofs.Common.{◌≡◌, ◌≤◌, vec_len, vec_capacity}
use Rattle.am_bench.proofs.log.publish_and_read.Given as goal

abbrev pub invariant-loop-reader : goal.invariant-loop-reader
invariant-loop-reader g l = record {
  long : vec_len l.seats ≡ l._reader;
  room : l.load.readers ≤ vec_capacity l.seats;
}
