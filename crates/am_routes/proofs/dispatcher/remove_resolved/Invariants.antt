use Rattle.std.proofs.Common.{◌≡◌, ◌++◌, map, min, take, drop, length}
use Rattle.am_routes.specs.Groups.{removed_alerts}
use Rattle.am_routes.specs.inside.GroupLists.{without_resolved}
use Rattle.am_routes.specs.inside.GroupMaps.{groups_in, AreKeyedByGroups}
use Rattle.am_routes.proofs.dispatcher.remove_resolved.Given as goal

-- the groups so far are without what is resolved
abbrev pub invariant-loop-at : goal.invariant-loop-at
invariant-loop-at l = record {
  left : groups_in l.groups.entries ≡ map (without_resolved l.now) (take l.at (groups_in l.initial.groups.entries)) ++ drop l.at (groups_in l.initial.groups.entries);
  removed : l.removed ≡ min (removed_alerts l.now (take l.at (groups_in l.initial.groups.entries))) 18446744073709551615;
  kept : AreKeyedByGroups l.groups.entries;
  long : length l.groups.entries ≡ length l.initial.groups.entries;
}
