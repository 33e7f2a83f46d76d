use Rattle.std.proofs.Common.{◌≡◌, ◌≤◌, length}
use Rattle.am_inhibit.specs.inside.Indexes.{indexes_before}
use Rattle.am_inhibit.proofs.inhibitor.undo_all.Given as goal

abbrev pub invariant-loop-change : goal.invariant-loop-change
invariant-loop-change l = record {
  before : indexes_before l.left.items l.indexes ≡ indexes_before l.fn.changes.items l.fn.indexes;
  within : length l.left.items ≤ length l.indexes;
}

abbrev pub decreases-loop-change : goal.decreases-loop-change
decreases-loop-change l = goal.left-loop-change l
