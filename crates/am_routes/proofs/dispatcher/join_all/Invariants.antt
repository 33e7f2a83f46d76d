use Rattle.std.proofs.Common.{◌≡◌, ◌+◌, ◌≤◌, take, drop, length, vec_len, vec_capacity}
use Rattle.am_routes.specs.inside.Searches.{nodes_in}
use Rattle.am_routes.specs.inside.GroupLists.{with_members}
use Rattle.am_routes.specs.inside.GroupMaps.{groups_in, AreKeyedByGroups}
use Rattle.am_routes.specs.Undoing.{all_before}
use Rattle.am_routes.proofs.dispatcher.join_all.Given as goal

-- the alert stands in a group of each route so far, and the changes lead back
abbrev pub invariant-loop-one : goal.invariant-loop-one
invariant-loop-one l = record {
  joined : groups_in l.groups.entries ≡ with_members (nodes_in (take l.one-index l.found)) l.alert (groups_in l.fn.groups.entries);
  before : all_before l.changes.items (groups_in l.groups.entries) ≡ groups_in l.fn.groups.entries;
  kept : AreKeyedByGroups l.groups.entries;
  room : vec_len l.changes + length (drop l.one-index l.found) ≤ vec_capacity l.changes;
}
