-- The routing tree, as contracts see it (Alertmanager's `dispatch.Route`).
use Rattle.std.specs.Prelude.{ℕ, ◌+◌, List, Bool}
use Rattle.am_matchers.specs.Matchers.{MatcherView}
use Rattle.am_config.specs.declared.group_by.GroupBy.{GroupBy}

-- a route without the routes below it: its receiver and its grouping, own or from above, its own
-- matchers alone, and whether the routes after it are asked too
pub record RouteView : Type 0 where
  pub receiver : List ℕ
  pub group_by : GroupBy
  pub matchers : List MatcherView
  pub continues : Bool

-- routes in order: the first, the routes below it, and the others
pub data Forest : Type 0 where
  no_routes : Forest
  route : RouteView → Forest → Forest → Forest

-- how many routes there are, those below others too
abbrev pub count_of : Forest → ℕ
count_of no_routes = 0
count_of (route first children others) = 1 + (count_of children + count_of others)
