use Rattle.std.proofs.Common.{◌≡◌, ◌+◌, ◌≤◌, take, drop, length, vec_len, vec_capacity}
use Rattle.am_store.specs.Shared.{alerts_in}
use Rattle.am_store.proofs.store.absorb.PreparedReports.of.Given as goal

abbrev pub invariant-loop-new : goal.invariant-loop-new
invariant-loop-new l = record {
  blocks : alerts_in l.blocks.items ≡ take l.new-index l.news;
  room : vec_len l.blocks + length (drop l.new-index l.news) ≤ vec_capacity l.blocks;
}
