use Rattle.std.proofs.Common.{◌≡◌, ◌≤◌, ◌++◌, drop, length}
use Rattle.am_config.specs.Routes.{count_of}
use Rattle.am_config.specs.RouteLists.{forest_of}
use Rattle.am_routes.specs.Listings.{listed_from}
use Rattle.am_routes.proofs.listed_route.+list_each.Given as goal

abbrev pub decreases-list_each : goal.decreases-list_each
decreases-list_each l = count_of (forest_of l.routes.now)

-- what is listed, with what is left to list, is the whole
abbrev pub invariant-loop-route : goal.invariant-loop-route
invariant-loop-route l = record {
  deep : l.depth ≤ length l.listed.items;
  so_far : l.listed.items ++ listed_from l.depth (length l.listed.items) (forest_of (drop l.route-index l.routes))
      ≡ l.initial.listed.items ++ listed_from l.depth (length l.initial.listed.items) (forest_of l.routes);
}
