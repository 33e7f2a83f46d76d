-- A route has fewer routes below it than there are. Only code of this crate cites it.
use Rattle.std.specs.Prelude.{◌≤◌, max, List, [], ◌∷◌}
use Rattle.std.proofs.Common.{arith}
use denote.Param.Weighed.{most}
use Rattle.am_config.specs.declared.route.Route.{Route}
use Rattle.am_config.specs.declared.route.Routes.TheDeep.{deep-Route}
use Rattle.am_config.specs.Routes.{count_of}
use Rattle.am_config.specs.RouteLists.{forest_of}

-- no route of a list has as many routes below it as there are in all
pub most_le-count_of :
    (rs : List Route) → max (most deep-Route rs) 0 ≤ count_of (forest_of rs)
most_le-count_of [] = omega arith
most_le-count_of (r ∷ rs) = omega (arith, most_le-count_of rs)
