use Rattle.std.proofs.Common.{◌≡◌, [], vec_len, vec_capacity}
use Rattle.std.specs.List.{All}
use Rattle.am_cast.proofs.parts.deal_passes.Given as goal

abbrev pub invariant-loop-poster : goal.invariant-loop-poster
invariant-loop-poster g l = record {
  table : l.seat.table_id ≡ l.initial.seat.table_id;
  me : l.seat.me ≡ l.initial.seat.me;
  long : vec_len l.passes ≡ l._poster;
  room : vec_capacity l.passes ≡ l.posters;
  each : All (λ pass. pass ≡ record { noted = []; own = [] }) l.passes.items;
}
