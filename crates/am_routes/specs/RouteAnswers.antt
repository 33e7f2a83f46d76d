-- Which routes a label set matches (Alertmanager's `dispatch.Route.Match`).
use Rattle.std.specs.Prelude.{◌≡◌, ℕ, ◌+◌, Bool, true, false, if◌then◌else◌, List, [], ◌∷◌, ◌++◌, map}
use Rattle.am_labels.specs.LabelSets.{Labels}
use Rattle.am_matchers.specs.Matchers.{all_admitted}
use Rattle.am_routes.specs.declared.route_id.RouteId.{RouteId}
use Rattle.am_config.specs.Routes.{RouteView, Forest, no_routes, route, count_of}

-- a route of a tree, with its number in pre-order
pub record Node : Type 0 where
  pub number : ℕ
  pub route : RouteView

module _ (labels : Labels) where
  mutual
    -- what a route answers: nothing, if its matchers fail; else what the routes below it answer; itself,
    -- if they answer nothing
    pub data RouteAnswer : ℕ → RouteView → Forest → List Node → Type 0 where
      fails : {number : ℕ} {first : RouteView} {below : Forest}
          → all_admitted first.matchers labels ≡ false → RouteAnswer number first below []
      from_below : {number : ℕ} {first : RouteView} {below : Forest} {node : Node} {nodes : List Node}
          → all_admitted first.matchers labels ≡ true → RoutesAnswer (number + 1) below (node ∷ nodes)
          → RouteAnswer number first below (node ∷ nodes)
      itself : {number : ℕ} {first : RouteView} {below : Forest}
          → all_admitted first.matchers labels ≡ true → RoutesAnswer (number + 1) below []
          → RouteAnswer number first below (record { number = number; route = first } ∷ [])

    -- what routes in order answer, the first one having the number: their answers joined, up to and
    -- including the first that isn't empty and is of a route without `continue`
    pub data RoutesAnswer : ℕ → Forest → List Node → Type 0 where
      none_left : {number : ℕ} → RoutesAnswer number no_routes []
      stops : {number : ℕ} {first : RouteView} {below others : Forest} {node : Node} {nodes : List Node}
          → RouteAnswer number first below (node ∷ nodes) → first.continues ≡ false
          → RoutesAnswer number (route first below others) (node ∷ nodes)
      gives_nothing : {number : ℕ} {first : RouteView} {below others : Forest} {rest : List Node}
          → RouteAnswer number first below [] → RoutesAnswer (number + 1 + count_of below) others rest
          → RoutesAnswer number (route first below others) rest
      goes_on : {number : ℕ} {first : RouteView} {below others : Forest} {own rest : List Node}
          → RouteAnswer number first below own → first.continues ≡ true
          → RoutesAnswer (number + 1 + count_of below) others rest
          → RoutesAnswer number (route first below others) (own ++ rest)

-- the numbers of the routes that a label set matches
abbrev pub IsAnswerOf : Labels → Forest → List RouteId → Type 0
IsAnswerOf labels tree ids =
    (nodes : List Node) × RoutesAnswer labels 0 tree nodes
    × (ids ≡ map (λ node. record { 0 = node.number }) nodes)

-- what a route answers, by what the routes below it answer
abbrev pub own_answer : Labels → ℕ → RouteView → List Node → List Node
own_answer labels number first [] =
    if all_admitted first.matchers labels then record { number = number; route = first } ∷ [] else []
own_answer labels number first (node ∷ nodes) =
    if all_admitted first.matchers labels then node ∷ nodes else []

-- an answer with those after it, unless it isn't empty and its route doesn't continue
abbrev pub joined_with : List Node → Bool → List Node → List Node
joined_with [] continues rest = rest
joined_with (node ∷ nodes) continues rest = node ∷ nodes ++ (if continues then rest else [])

-- the one answer of routes in order, the first one having the number
abbrev pub answer_of : Labels → ℕ → Forest → List Node
answer_of labels number no_routes = []
answer_of labels number (route first below others) =
    joined_with (own_answer labels number first (answer_of labels (number + 1) below))
    first.continues (answer_of labels (number + 1 + count_of below) others)
