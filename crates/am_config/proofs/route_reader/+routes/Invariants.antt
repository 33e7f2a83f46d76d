use Rattle.std.proofs.Common.{◌+◌, ◌*◌, drop, Some}
use Rattle.serde_json.specs.View.{items_view}
use Rattle.am_config.specs.Paths.{item_path}
use Rattle.am_config.specs.RouteReadings.{elements, route_of}
use Rattle.am_config.proofs.Readings.{IsReadUpTo}
use Rattle.am_config.proofs.route_reader.+routes.Given as goal

abbrev pub decreases-read_route : goal.decreases-read_route
decreases-read_route l = 2 * l.levels

abbrev pub decreases-read_routes : goal.decreases-read_routes
decreases-read_routes l = 2 * l.levels + 1

abbrev pub invariant-read_routes-loop-i : goal.invariant-read_routes-loop-i
invariant-read_routes-loop-i l =
    IsReadUpTo (λ i d. route_of l.levels (Some l.above) (item_path l.path i) d) (elements (items_view l.items)) l.routes.items l.i (drop l.i (elements (items_view l.items)))
