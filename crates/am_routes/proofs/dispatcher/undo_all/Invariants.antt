use Rattle.std.proofs.Common.{◌≡◌}
use Rattle.am_routes.specs.inside.GroupMaps.{groups_in, AreKeyedByGroups}
use Rattle.am_routes.specs.Undoing.{all_before}
use Rattle.am_routes.proofs.dispatcher.undo_all.Given as goal

-- the changes that are left lead back to the same groups
abbrev pub invariant-loop-change : goal.invariant-loop-change
invariant-loop-change l = record {
  before : all_before l.left.items (groups_in l.groups.entries) ≡ all_before l.fn.changes.items (groups_in l.fn.groups.entries);
  kept : AreKeyedByGroups l.groups.entries;
}

abbrev pub decreases-loop-change : goal.decreases-loop-change
decreases-loop-change l = goal.left-loop-change l
