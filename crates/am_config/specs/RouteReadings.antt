-- The routes of a configuration (Alertmanager's configuration documentation, "route", and
-- `dispatch.NewRoute`), over the value that its JSON is.
use Rattle.std.specs.Prelude.{ℕ, zero, suc, Bool, List, [], ◌∷◌, codes, Option, Some, None, Ok, Err}
use Rattle.serde_json.specs.Data.{Data, Items, no_items, item}
use Rattle.am_alert.specs.GivenMembers.{given}
use Rattle.am_config.specs.Paths.{member_path, item_path}
use Rattle.am_config.specs.RouteHeads.{head_of, tail_of}
use Rattle.am_matchers.specs.Matchers.{MatcherView}
use Rattle.am_config.specs.Routes.{Forest}
use Rattle.am_config.specs.RouteLists.{forest_of}
use Rattle.am_config.specs.Readings.{Reading, Is, ◌>>=◌, each}
use Rattle.am_config.specs.MatcherReadings.{matchers_of}
use Rattle.am_config.specs.declared.route.Route.{Route}
use Rattle.am_config.specs.declared.route_head.RouteHead.{RouteHead}
use Rattle.am_config.specs.declared.route_reader.TheConstants.{MAX_DEPTH}
use Rattle.am_config.specs.declared.fault.ConfigFault.TheVariants.{Missing, TooDeep}

-- the elements of an array in order
abbrev pub elements : Items → List Data
elements no_items = []
elements (item d ds) = d ∷ elements ds

-- the routes of the array at a path, each read in its order
abbrev pub routes_of : (List ℕ → Data → Reading Route) → List ℕ → Items → Reading Forest
routes_of reads path items = do
  routes ← each (λ i d. reads (item_path path i) d) 0 (elements items)
  Is (Ok (forest_of routes))

-- a route of its parts
abbrev pub with_children : RouteHead → List MatcherView → Bool → Forest → Route
with_children head matchers continues children = record {
  receiver = head.receiver;
  group_by = head.group_by;
  matchers = matchers;
  continues = continues;
  children = children;
}

-- A route at a path, with a number of levels left, its own included. It has what it states; its receiver
-- and its grouping are else those of the route above it, its matchers aren't.
unfoldable pub route_of : ℕ → Option RouteHead → List ℕ → Data → Reading Route
route_of zero above at d = Is (Err TooDeep)
route_of (suc levels) above at d = do
  head ← Is (head_of above at d)
  matchers ← matchers_of (member_path at (codes "matchers")) head.matcher_texts
  tail ← Is (tail_of at d)
  children ← routes_of (route_of levels (Some head)) (member_path at (codes "routes")) tail.1
  Is (Ok (with_children head matchers tail.0 children))

-- the root has to be there
abbrev pub root_from : Option Data → Reading Route
root_from None = Is (Err (Missing (codes "route")))
root_from (Some d) = route_of MAX_DEPTH None (codes "route") d

-- the route of the whole
abbrev pub root_reading : Data → Reading Route
root_reading d = root_from (given (codes "route") d)
