use Rattle.std.proofs.Common.{◌≡◌, take}
use Rattle.am_config.specs.RouteLists.{forest_of}
use Rattle.am_routes.specs.inside.ChildIndexes.{filings, is_unfiled, places_from}
use Rattle.am_routes.proofs.child_index.unfiled.Given as goal

-- the indexes of those of the routes so far
abbrev pub invariant-loop-at : goal.invariant-loop-at
invariant-loop-at l = l.places.items ≡ places_from is_unfiled 0 (filings (forest_of (take l.at l.routes)))
