use Rattle.std.proofs.Common.{◌≡◌, ◌++◌, ◌+◌, ◌≤◌, drop, take, length, vec_len, vec_capacity}
use Rattle.am_store.specs.AlertList.{with_alerts, batch_by_list}
use Rattle.am_store.specs.Shared.{alerts_in}
use Rattle.am_store.specs.AlertMaps.{stored_in, AreKeptByLabels, all_taken_back}
use Rattle.am_store.proofs.store.Store.absorb.Given as goal

-- the blocks before the index are what their reports became, and the others the reports that are left
abbrev pub invariant-loop-block : goal.invariant-loop-block
invariant-loop-block l = record {
  batch : take l.block-index (alerts_in l.block-items) ++ batch_by_list l.now (drop l.block-index (alerts_in l.block-items)) (stored_in l.self-inside.alerts.entries) ≡ batch_by_list l.now l.fn.news (stored_in l.fn.self);
  stored : stored_in l.self-inside.alerts.entries ≡ with_alerts (take l.block-index (alerts_in l.block-items)) (stored_in l.fn.self);
  kept : AreKeptByLabels l.self-inside.alerts.entries;
  before : all_taken_back l.changes.items l.self-inside.alerts.entries ≡ l.fn.self;
  current : l.self-inside.current ≡ l.initial.self-inside.current;
  shared : l.self-inside.shared ≡ l.initial.self-inside.shared;
  changes : vec_len l.changes + length (drop l.block-index l.block-items) ≤ vec_capacity l.changes;
}
