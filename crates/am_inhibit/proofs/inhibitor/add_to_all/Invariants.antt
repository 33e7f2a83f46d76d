use Rattle.std.proofs.Common.{◌≡◌, ◌++◌, map, take, drop, length, vec_capacity}
use Rattle.am_inhibit.specs.inside.Indexes.{index_with, indexes_before}
use Rattle.am_inhibit.proofs.inhibitor.add_to_all.Given as goal

-- the label set stands in each index so far, and the changes lead back
abbrev pub invariant-loop-index : goal.invariant-loop-index
invariant-loop-index l = record {
  added : l.indexes ≡ map (index_with l.at l.labels) (take l.index l.fn.indexes) ++ drop l.index l.fn.indexes;
  before : indexes_before l.changes.items l.indexes ≡ l.fn.indexes;
  count : length l.changes.items ≡ l.index;
  room : vec_capacity l.changes ≡ length l.fn.indexes;
}
