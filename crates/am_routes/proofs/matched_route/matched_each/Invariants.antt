use Rattle.std.proofs.Common.{◌≡◌, map, take}
use Rattle.am_routes.specs.Listings.{matched_at}
use Rattle.am_routes.specs.inside.Searches.{nodes_in}
use Rattle.am_routes.proofs.matched_route.matched_each.Given as goal

-- the routes so far
abbrev pub invariant-loop-one : goal.invariant-loop-one
invariant-loop-one l = l.matched.items ≡ map (matched_at l.labels) (nodes_in (take l.one-index l.found))
