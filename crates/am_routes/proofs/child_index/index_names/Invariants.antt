use Rattle.std.proofs.Common.{◌≡◌, true, take}
use Rattle.std.specs.List.{AllByRecursion, list_all}
use Rattle.am_config.specs.RouteLists.{forest_of}
use Rattle.am_routes.specs.inside.ChildIndexes.{filings, is_found, IsIndexOf}
use Rattle.am_routes.proofs.child_index.index_names.Given as goal

-- each is an index of all routes, and the name of each route so far is found
abbrev pub invariant-loop-route : goal.invariant-loop-route
invariant-loop-route l = record {
  are : AllByRecursion (IsIndexOf (filings (forest_of l.routes))) l.indexes.items;
  found : list_all (is_found l.indexes.items) (filings (forest_of (take l.route-index l.routes))) ≡ true;
}
