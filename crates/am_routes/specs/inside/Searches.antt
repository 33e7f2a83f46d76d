-- How the searches of a tree's routes are kept: in pre-order. Only code of this crate cites it.
use Rattle.std.specs.Prelude.{◌≡◌, ℕ, ◌+◌, min, List, [], ◌∷◌, ◌++◌, map, drop}
use Rattle.am_labels.specs.LabelSets.{Labels}
use Rattle.am_matchers.specs.Matchers.{MatcherView}
use Rattle.am_config.specs.declared.route.Route.{Route}
use Rattle.am_config.specs.Routes.{RouteView, Forest, no_routes, route}
use Rattle.am_config.specs.RouteLists.{route_view, forest_of}
use Rattle.am_routes.specs.declared.matching.Found.{Found}
use Rattle.am_routes.specs.declared.matching.FoundRoute.{FoundRoute}
use Rattle.am_routes.specs.declared.matching.Searches.{Searches}
use Rattle.am_routes.specs.declared.route_id.RouteId.{RouteId}
use Rattle.am_routes.specs.inside.ChildIndexes.{other_matchers}
use Rattle.am_routes.specs.Looking.{routes_looked_at}
use Rattle.am_routes.specs.RouteAnswers.{Node, answer_of}

-- a route that was found, as a node
abbrev pub node_of : FoundRoute → Node
node_of found = record { number = found.id.0; route = route_view found.route.now }

-- the routes that were found, as nodes
abbrev pub nodes_in : List FoundRoute → List Node
nodes_in found = map node_of found

-- the numbers of nodes
abbrev pub ids_of : List Node → List RouteId
ids_of nodes = map (λ node. record { 0 = node.number }) nodes

-- something of each of some routes, before that of each route below it
abbrev pub in_pre_order : {X : Type 0} → (RouteView → Forest → X) → Forest → List X
in_pre_order of no_routes = []
in_pre_order of (route first below others) =
    of first below ∷ (in_pre_order of below ++ in_pre_order of others)

-- the routes below each
abbrev pub levels_of : Forest → List Forest
levels_of routes = in_pre_order (λ first below. below) routes

-- the matchers of each but its first equality matcher
abbrev pub others_of : Forest → List (List MatcherView)
others_of routes = in_pre_order (λ first below. other_matchers first.matchers) routes

-- the searches of a tree
abbrev pub AreSearchesOf : Route → Searches → Type 0
AreSearchesOf root searches =
    (searches.root ≡ root.matchers)
    × (searches.levels.items ≡ levels_of (forest_of (root ∷ [])))
    × (searches.others.items ≡ others_of (forest_of (root ∷ [])))

-- some elements are those from an index on
abbrev pub BeginAt : {X : Type 0} → ℕ → List X → List X → Type 0
BeginAt {X} at some all = (rest : List X) × (drop at all ≡ some ++ rest)

-- what is found after is what was found before, with a route's answers, which has a number
abbrev pub AddsAnswers : Labels → ℕ → Route → Found → Found → Type 0
AddsAnswers labels number asked before after =
    nodes_in after.routes.items
    ≡ nodes_in before.routes.items ++ answer_of labels number (forest_of (asked ∷ []))

-- the routes that are looked at for a route are counted too, as far as a u64 counts
abbrev pub AddsLooked : Labels → Route → Found → Found → Type 0
AddsLooked labels asked before after =
    min after.looked 18446744073709551615
    ≡ min (before.looked + routes_looked_at labels (forest_of (asked ∷ []))) 18446744073709551615
