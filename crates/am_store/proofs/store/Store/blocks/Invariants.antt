use Rattle.std.proofs.Common.{◌≡◌, ◌*◌, ◌<◌, ◌≤◌, ℕ, take, drop, length, get_or, vec_len, vec_capacity}
use Rattle.am_store.specs.declared.shared_alerts.TheConstants.{BLOCK, GROUP}
use Rattle.am_store.specs.AlertMaps.{stored_in}
use Rattle.am_store.specs.inside.Blocks.{Block, alerts_of_block}
use Rattle.am_store.proofs.store.Store.blocks.Given as goal

abbrev pub invariant-loop-at : goal.invariant-loop-at
invariant-loop-at l = record {
  each : (k : ℕ) (d : Block) → k < length l.blocks.items → alerts_of_block (get_or l.blocks.items k d) ≡ take BLOCK (drop (BLOCK * k) (take GROUP (drop (GROUP * l.group) (stored_in l.self))));
  len : vec_len l.blocks ≡ l.at;
  room : l.count ≤ vec_capacity l.blocks;
}
