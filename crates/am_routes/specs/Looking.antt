-- How many routes are looked at for a label set: of the routes below one that matches, those that the first
-- equality matcher of each doesn't rule out.
use Rattle.std.specs.Prelude.{ℕ, ◌+◌, Bool, true, false, not, ◌&&◌, if◌then◌else◌, List, Option, None, Some}
use Rattle.std.specs.List.{find}
use Rattle.am_matchers.specs.declared.operator.Operator.{Operator}
use Rattle.am_matchers.specs.declared.operator.Operator.TheVariants.{Equal, NotEqual, MatchRegexp}
use Rattle.am_matchers.specs.declared.operator.Operator.TheVariants.{MatchNotRegexp}
use Rattle.am_labels.specs.LabelSets.{Labels}
use Rattle.am_matchers.specs.Matchers.{MatcherView, admitted, all_admitted}
use Rattle.am_config.specs.Routes.{Forest, no_routes, route}

-- whether an operator is `=`
abbrev pub is_equal : Operator → Bool
is_equal Equal = true
is_equal NotEqual = false
is_equal MatchRegexp = false
is_equal MatchNotRegexp = false

-- the first of some matchers that asks for one value
abbrev pub first_equality : List MatcherView → Option MatcherView
first_equality matchers = find (λ matcher. is_equal matcher.operator) matchers

-- whether a route with this first equality matcher may match a label set; one without any may
abbrev pub may_match : Labels → Option MatcherView → Bool
may_match labels None = true
may_match labels (Some matcher) = admitted matcher labels

-- how many of routes in order, and of those below them, are looked at: each that may match, and then those
-- below it if it matches; after one that matches and doesn't continue none is
abbrev pub looked_from : Labels → Forest → ℕ
looked_from labels no_routes = 0
looked_from labels (route first below others) =
    if may_match labels (first_equality first.matchers)
    then 1 + ((if all_admitted first.matchers labels then looked_from labels below else 0)
    + (if all_admitted first.matchers labels && not first.continues then 0
    else looked_from labels others))
    else looked_from labels others

-- how many of the routes below the root of a tree are looked at
abbrev pub routes_looked_at : Labels → Forest → ℕ
routes_looked_at labels no_routes = 0
routes_looked_at labels (route root below others) =
    if all_admitted root.matchers labels then looked_from labels below else 0
