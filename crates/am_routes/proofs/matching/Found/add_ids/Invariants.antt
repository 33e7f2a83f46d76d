use Rattle.std.proofs.Common.{◌≡◌, ◌++◌, map, take}
use Rattle.am_routes.specs.declared.matching.FoundRoute.{FoundRoute}
use Rattle.am_routes.proofs.matching.Found.add_ids.Given as goal

-- the ids of the routes so far are added
abbrev pub invariant-loop-one : goal.invariant-loop-one
invariant-loop-one l =
    l.ids.items ≡ l.fn.ids.items ++ map (λ (one : FoundRoute). one.id) (take l.one-index l.one-items)
