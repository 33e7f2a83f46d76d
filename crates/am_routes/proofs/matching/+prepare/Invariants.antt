use Rattle.std.proofs.Common.{◌≡◌, ◌++◌, take}
use Rattle.am_config.specs.Routes.{count_of}
use Rattle.am_config.specs.RouteLists.{forest_of}
use Rattle.am_routes.specs.inside.ChildIndexes.{offsets_from}
use Rattle.am_routes.specs.inside.Searches.{levels_of, others_of}
use Rattle.am_routes.proofs.matching.+prepare.Given as goal

abbrev pub decreases-prepare : goal.decreases-prepare
decreases-prepare l = count_of l.route.now.children

-- the routes so far have their searches and their offsets
abbrev pub invariant-loop-child : goal.invariant-loop-child
invariant-loop-child l = record {
  levels : l.searches.levels.items ≡ l.initial.searches.levels.items ++ levels_of (forest_of (take l.child-index l.children));
  others : l.searches.others.items ≡ l.initial.searches.others.items ++ others_of (forest_of (take l.child-index l.children));
  root : l.searches.root ≡ l.fn.searches.root;
  offsets : l.offsets.items ≡ offsets_from 1 (forest_of (take l.child-index l.children));
}
