-- A list of routes, seen as one value.
use Rattle.std.specs.Prelude.{List, [], ◌∷◌}
use Rattle.am_config.specs.declared.route.Route.{Route}
use Rattle.am_config.specs.declared.tree.RouteTree.{RouteTree}
use Rattle.am_config.specs.Routes.{RouteView, Forest, no_routes, route}

-- a route without those below it
abbrev pub route_view : Route → RouteView
route_view r = record {
  receiver = r.receiver;
  group_by = r.group_by;
  matchers = r.matchers;
  continues = r.continues;
}

-- routes, each with those below it
abbrev pub forest_of : List Route → Forest
forest_of [] = no_routes
forest_of (r ∷ rs) = route (route_view r) r.children (forest_of rs)

-- a tree, as its root alone with those below it
abbrev pub root_of : RouteTree → Forest
root_of tree = forest_of (tree.root ∷ [])
