use Rattle.std.proofs.Common.{◌≡◌, ℕ, Bool, true, cond, ◌+◌, ◌++◌, ◌^◌, ◌≤◌, refl, sym, subst, arith}
use Rattle.std.specs.Global.{Global}
use Rattle.am_segment.specs.declared.block.Claim.{Claim}
use Rattle.am_segment.specs.declared.block.Part.{Part}
use Rattle.am_segment.specs.inside.Shares.{HoldShares, IsBlockOf}
use Rattle.am_segment.proofs.Pairs.{same-name}
use Rattle.am_segment.proofs.Shares.{some-parts, both-hold, is-there, block-of-both}
use Rattle.am_segment.proofs.share.Share.join.Given as given
use Rattle.am_segment.proofs.share.Share.join.Goals as goal
use Rattle.am_segment.proofs.share.Share.join.Goals.{Start}

-- what all of the keys have
all : (g : given.Over) (c : Start g) → let a = c.args.self in let b = c.args.more in
    (a.part.count + b.part.count ≤ 2 ^ 63) × HoldShares (cond b.claim.there true a.claim.there) (a.part.count + b.part.count) a.part.keys (a.part.numbers ++ b.part.numbers)
all g c = let a = c.args.self in let b = c.args.more in both-hold a.claim.there b.claim.there a.part.count b.part.count a.part.keys a.part.numbers b.part.numbers a.shares
    (subst (λ (keys : ℕ). HoldShares b.claim.there b.part.count keys b.part.numbers) c.requires.same.1 b.shares) c.requires.few c.requires.once

pub join-requires-clause-same : goal.join-requires-clause-same
join-requires-clause-same g c = (same-name c.args.self.part c.args.more.part c.requires.same.0).0

pub join-requires-clause-parts : goal.join-requires-clause-parts
join-requires-clause-parts g c = let a = c.args.self in let some = (some-parts a.claim.there a.part.count a.part.keys a.part.numbers a.shares).0 in let any = a.shares.0 in
    (omega (arith, some, any), (all g (goal.at.join-requires-clause-parts g c).Start).0)

pub invariant_of-result-clause-counted : goal.invariant_of-result-clause-counted
invariant_of-result-clause-counted g c = grind (arith, same-name)

pub invariant_of-result-clause-block : goal.invariant_of-result-clause-block
invariant_of-result-clause-block g c = let a = c.args.self in let b = c.args.more in let T = g.row.T.Denot in
    let is : Claim T Global → Part T → Type 0 = λ claim part. claim.there ≡ true → IsBlockOf claim part × (claim.alloc ≡ a.alloc) in
    subst (λ (claim : Claim T Global). is claim c.join.result) (sym c.join-2.ensures)
    (subst (λ (part : Part T). is (cond b.claim.there b.claim a.claim) part) (sym c.join.ensures)
    (block-of-both a.claim b.claim a.part b.part a.alloc b.alloc c.requires.same.0 a.block b.block b.claim.there refl))

pub invariant_of-result-clause-shares : goal.invariant_of-result-clause-shares
invariant_of-result-clause-shares g c = let a = c.args.self in let b = c.args.more in let T = g.row.T.Denot in
    subst (λ (claim : Claim T Global). HoldShares claim.there c.join.result.count c.join.result.keys c.join.result.numbers) (sym c.join-2.ensures)
    (subst (λ (part : Part T). HoldShares (cond b.claim.there b.claim a.claim).there part.count part.keys part.numbers) (sym c.join.ensures)
    (subst (λ (there : Bool). HoldShares there (a.part.count + b.part.count) a.part.keys (a.part.numbers ++ b.part.numbers)) (sym (is-there a.claim b.claim b.claim.there refl)) (all g (goal.at.invariant_of-result-clause-shares g c).Start).1))
