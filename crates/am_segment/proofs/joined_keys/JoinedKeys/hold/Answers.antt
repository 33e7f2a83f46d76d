use Rattle.std.proofs.Common.{◌≡◌, ℕ, ◌<◌, ◌-◌, nat_eq, count_by, length, Some, sym, ap, ◌∙◌, subst, arith}
use Rattle.std.specs.List.{All}
use Rattle.std.proofs.lemmas.List.{length-map, map-append}
use Rattle.am_segment.specs.Segments.{KeyView}
use Rattle.am_segment.specs.inside.Fields.{keys_held, key_of_part}
use Rattle.am_segment.specs.inside.Shares.{HoldShares, lasts, name_of}
use Rattle.am_segment.proofs.Shares.{of-one, once, counted}
use Rattle.am_segment.proofs.joined_keys.JoinedKeys.hold.Given as given
use Rattle.am_segment.proofs.joined_keys.JoinedKeys.hold.Goals as goal
use Rattle.am_segment.proofs.joined_keys.JoinedKeys.hold.Goals.{In-Some, in-None+in-None-replace, in-Some+in-None-replace-2}

-- the keys so far
were : (g : given.Over) (c : In-Some g) → keys_held (Some c.in-Some.held) ≡ c.args.self.now
were g c = ap keys_held (sym c.in-Some.is ∙ c.take.ensures.value) ∙ c.self.view_is

-- the further keys are of their segment
of-them : (g : given.Over) (c : In-Some g) → let held = c.in-Some.held.part in let more = c.args.more.part in (name_of more ≡ name_of held) × (more.keys ≡ held.keys) × (more.items ≡ held.items)
of-them g c = let held = c.in-Some.held in let more = c.args.more.part in
    of-one held.part more held.part.numbers held.shares.0 (subst (λ keys. All (λ (key : KeyView g.row.T.Denot). key ≡ key_of_part more key.number) keys) (sym (were g c)) c.requires.same)

pub join-all-requires-clause-same : goal.join-all-requires-clause-same
join-all-requires-clause-same g c = let of = of-them g c in (of.0, of.1)

pub join-all-requires-clause-few : goal.join-all-requires-clause-few
join-all-requires-clause-few g c = let held = c.in-Some.held.part in let of = of-them g c in
    omega (arith, c.requires.few, c.requires.count, of.1, ap length (were g c), length-map held.numbers (key_of_part held))

pub join-all-requires-clause-once : goal.join-all-requires-clause-once
join-all-requires-clause-once g c = let held = c.in-Some.held in let more = c.args.more in let of = of-them g c in let part = held.part in
    once held.claim.there more.claim.there part.count more.part.count part.keys part.numbers more.part.numbers held.shares (subst (λ (keys : ℕ). HoldShares more.claim.there more.part.count keys more.part.numbers) of.1 more.shares)
    (λ some. sym (counted (name_of part) part.keys (part.keys - 1) part.items part.numbers) ∙ ap (count_by (λ (key : KeyView g.row.T.Denot). nat_eq key.number (part.keys - 1))) (were g c)
    ∙ ap (λ keys. count_by (λ (key : KeyView g.row.T.Denot). nat_eq key.number (keys - 1)) c.args.self.now) (sym of.1) ∙ c.requires.once (subst (λ keys. 0 < lasts keys more.part.numbers) (sym of.1) some))

pub returns : goal.returns
returns g c = grind (arith, in-None+in-None-replace, in-Some+in-None-replace-2, of-one, map-append)
