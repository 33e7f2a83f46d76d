-- A routing tree as the list of its routes (`amtool config routes show`), and what is said of those that a
-- label set matches (`amtool config routes test`).
use Rattle.std.specs.Prelude.{◌≡◌, ℕ, ◌+◌, List, [], ◌∷◌, ◌++◌, map}
use Rattle.am_labels.specs.LabelSets.{Labels}
use Rattle.am_matchers.specs.Matchers.{MatcherView}
use Rattle.am_matchers.specs.MatcherTexts.{operator_text}
use Rattle.am_labels.specs.Printing.{quoted}
use Rattle.am_config.specs.GroupLabels.{group_labels}
use Rattle.am_config.specs.Routes.{Forest, no_routes, route, count_of}
use Rattle.am_routes.specs.RouteAnswers.{Node, RoutesAnswer}
use Rattle.am_routes.specs.declared.listed_route.ListedRoute.{ListedRoute}
use Rattle.am_routes.specs.declared.matched_route.MatchedRoute.{MatchedRoute}

-- a matcher as it is printed: `name="value"` (`Matcher.String`, pkg/labels/matcher.go)
abbrev pub matcher_text : MatcherView → List ℕ
matcher_text matcher = matcher.name ++ (operator_text matcher.operator ++ quoted matcher.value)

-- what is listed of a route with `depth` routes above it
abbrev pub listed : ℕ → Node → ListedRoute
listed depth node = record {
  id = record { 0 = node.number };
  depth = depth;
  receiver = node.route.receiver;
  matchers = map matcher_text node.route.matchers;
  group_by = node.route.group_by;
  continues = node.route.continues;
}

-- routes with `depth` routes above each, in pre-order, the first one having the number: each before those
-- below it (`dispatch.Route.Walk`)
abbrev pub listed_from : ℕ → ℕ → Forest → List ListedRoute
listed_from depth number no_routes = []
listed_from depth number (route first below others) =
    listed depth (record { number = number; route = first })
    ∷ (listed_from (depth + 1) (number + 1) below ++ listed_from depth (number + 1 + count_of below) others)

-- the routes of a tree
abbrev pub listing : Forest → List ListedRoute
listing tree = listed_from 0 0 tree

-- what is said of a route that a label set matches: its number, its receiver, and the group labels that an
-- alert with this label set has there (`dispatch.getGroupLabels`)
abbrev pub matched_at : Labels → Node → MatchedRoute
matched_at labels node = record {
  id = record { 0 = node.number };
  receiver = node.route.receiver;
  labels = group_labels node.route.group_by labels;
}

-- this is said of the routes that a label set matches, in their order
abbrev pub AreMatchedBy : Labels → Forest → List MatchedRoute → Type 0
AreMatchedBy labels tree found =
    (nodes : List Node) × RoutesAnswer labels 0 tree nodes × (found ≡ map (matched_at labels) nodes)
