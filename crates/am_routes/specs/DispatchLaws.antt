-- Laws of the answers of routes, of the list of a tree's routes, and of the groups of a dispatcher's events.
use Rattle.std.specs.Prelude.{◌≡◌, ℕ, List, [], ◌∷◌, ◌++◌, map}
use Rattle.std.specs.List.{range_with_len, Contains}
use Rattle.am_labels.specs.LabelSets.{Labels}
use Rattle.am_config.specs.Routes.{Forest, count_of}
use Rattle.am_routes.specs.RouteAnswers.{Node, RoutesAnswer, answer_of}
use Rattle.am_routes.specs.Groups.{DispatchEvent, groups_of}
use Rattle.am_routes.specs.Listings.{listed, listing}

-- routes have an answer for each label set
abbrev pub RoutesAnswerEach : Type 0
RoutesAnswerEach = (labels : Labels) (number : ℕ) (routes : Forest)
    → RoutesAnswer labels number routes (answer_of labels number routes)

-- and no other
abbrev pub RoutesAnswerOnce : Type 0
RoutesAnswerOnce = (labels : Labels) (number : ℕ) (routes : Forest) (found : List Node)
    → RoutesAnswer labels number routes found → found ≡ answer_of labels number routes

-- the routes of a tree are listed with the numbers from 0 on
abbrev pub ListedAreNumbered : Type 0
ListedAreNumbered = (tree : Forest)
    → map (λ route. route.id.0) (listing tree) ≡ range_with_len 0 (count_of tree)

-- each route that a label set matches is listed
abbrev pub MatchedAreListed : Type 0
MatchedAreListed = (labels : Labels) (tree : Forest) (nodes : List Node) (node : Node)
    → RoutesAnswer labels 0 tree nodes → Contains nodes node
    → (depth : ℕ) × Contains (listing tree) (listed depth node)

-- what groups become by one more event depends on the groups alone, not on what led to them
abbrev pub GroupsGoOn : Type 0
GroupsGoOn = (tree : Forest) (one other : List DispatchEvent) (event : DispatchEvent)
    → groups_of tree one ≡ groups_of tree other
    → groups_of tree (one ++ event ∷ []) ≡ groups_of tree (other ++ event ∷ [])
