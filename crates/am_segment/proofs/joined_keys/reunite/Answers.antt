use Rattle.std.proofs.Common.{◌≡◌, ◌++◌, ◌∷◌, [], sym, ap, ◌∙◌, arith}
use Rattle.am_segment.specs.inside.Shares.{name_of}
use Rattle.am_segment.proofs.Shares.{Come, comes, come-all, same-come}
use Rattle.am_segment.proofs.joined_keys.reunite.Given as given
use Rattle.am_segment.proofs.joined_keys.reunite.Goals as goal
use Rattle.am_segment.proofs.joined_keys.reunite.Goals.{After-key}

pub loop-key-init : goal.loop-key-init
loop-key-init g c = let first = c.in-Some.first in let is = c.in-Some.ensures.items in let rest = c.pop.new.self.items in let view = c.first.view_is in
    same-come (sym (ap (λ key. key.segment) view)) (sym (ap (λ key. key.keys) view)) (sym (c.first.invariant.one ∙ ap (λ key. key.number ∷ []) view))
    (comes first.segment first.keys [] c.args.keys.items rest first is (come-all c.args.keys.items rest first is c.requires)).2

-- the next key is of the others' segment
next-comes : (g : given.Over) (c : After-key g) → let part = c.loop-key.all.part in let key = c.in-Some-pop.key in
    (key.segment ≡ name_of part) × (key.keys ≡ part.keys) × Come (name_of part) part.keys (part.numbers ++ key.number ∷ []) c.pop-in-loop-key.new.self.items
next-comes g c = let part = c.loop-key.all.part in
    comes (name_of part) part.keys part.numbers c.loop-key.keys.items c.pop-in-loop-key.new.self.items c.in-Some-pop.key c.in-Some-pop.ensures.items c.loop-key.invariant

pub join-all-requires-clause-same : goal.join-all-requires-clause-same
join-all-requires-clause-same g c = let next = next-comes g c in (ap (λ key. key.segment) c.key.view_is ∙ next.0, ap (λ key. key.keys) c.key.view_is ∙ next.1)

pub loop-key-preserved : goal.loop-key-preserved
loop-key-preserved g c = grind (arith, same-come, next-comes)
