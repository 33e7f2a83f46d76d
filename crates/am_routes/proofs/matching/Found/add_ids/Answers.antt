use Rattle.std.proofs.Common.{◌≡◌, List, [], ◌∷◌, ◌++◌, map, take, length, refl, ap, ◌∙◌, arith}
use Rattle.std.proofs.lemmas.List.{take_all}
use Rattle.am_routes.specs.declared.matching.FoundRoute.{FoundRoute}
use Rattle.am_routes.specs.inside.Searches.{nodes_in, ids_of}
use Rattle.am_routes.proofs.matching.Found.add_ids.Goals as goal

numbers : (found : List FoundRoute) → map (λ (one : FoundRoute). one.id) found ≡ ids_of (nodes_in found)
numbers [] = refl
numbers (one ∷ found) = ap (λ rest. one.id ∷ rest) (numbers found)

pub returns : goal.returns
returns c =
    let found = c.args.self.now.routes.items in
    let i = c.loop-one.one-index in
    let all : take i found ≡ found = take_all i found (omega (arith, ap length c.deref-one-items.ensures.value)) in
    c.loop-one.invariant
    ∙ ap (λ l. c.args.ids.now.items ++ l)
    (ap (λ l. map (λ (one : FoundRoute). one.id) (take i l)) c.deref-one-items.ensures.value
    ∙ (ap (map (λ (one : FoundRoute). one.id)) all ∙ numbers found))
