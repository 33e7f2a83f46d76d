use Rattle.std.proofs.Common.{◌≡◌, take}
use Rattle.am_config.specs.RouteLists.{forest_of}
use Rattle.am_routes.specs.inside.ChildIndexes.{entries_from}
use Rattle.am_routes.proofs.child_index.entries.Given as goal

-- what is read of each of the routes so far
abbrev pub invariant-loop-at : goal.invariant-loop-at
invariant-loop-at l = l.entries.items ≡ take l.at (entries_from 1 (forest_of l.routes))
