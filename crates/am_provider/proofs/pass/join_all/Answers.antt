use Rattle.std.proofs.Common.{◌≡◌, ◌∙◌, ◌++◌, ◌∷◌, [], List, length, sym, ap, subst, arith, length-append}
use Rattle.std.proofs.lemmas.List.{append_assoc}
use Rattle.am_cast.specs.declared.views.Own.{Own}
use Rattle.am_provider.specs.Batches.{Batch}
use Rattle.am_provider.specs.Settling.{JoinedView, own_of}
use Rattle.am_provider.proofs.Lists.{empty}
use Rattle.am_provider.proofs.Settling.{own_of_last, AreRising, rising_last}
use Rattle.am_provider.proofs.pass.join_all.Goals as goal

pub returns-in-None-clause-own : goal.returns-in-None-clause-own
returns-in-None-clause-own g c = ap own_of (sym (empty c.args.passes.items (sym c.args.passes.ok.0 ∙ c.in-None.ensures.cases.0)))

pub loop-next-init : goal.loop-next-init
loop-next-init g c =
    let left = c.pop.new.self.items in
    let last : c.args.passes.items ≡ left ++ c.in-Some.first ∷ [] = c.in-Some.ensures.items in
    let joined = c.of-all.ensures.joined in
    record {
      own = ap (λ (j : JoinedView). j.own ++ own_of left) joined ∙ (sym (own_of_last left c.in-Some.first) ∙ ap own_of (sym last));
      parts = omega (arith, ap (λ (j : JoinedView). j.parts) joined, ap length last, length-append left (c.in-Some.first ∷ []));
      rising = λ all. subst AreRising (sym last) (rising_last left c.in-Some.first c.of-all.ensures.rising all);
    }

pub loop-next-preserved : goal.loop-next-preserved
loop-next-preserved g c =
    let left = c.pop-in-loop-next.new.self.items in
    let next = c.in-Some-pop.next in
    let last : c.loop-next.left.items ≡ left ++ next ∷ [] = c.in-Some-pop.ensures.items in
    let so_far = c.loop-next.invariant in
    let joined = c.take_in.ensures.joined in
    record {
      own = ap (λ (j : JoinedView). j.own ++ own_of left) joined
          ∙ (append_assoc c.loop-next.all.own next.own (own_of left)
          ∙ (ap (λ (os : List (Own Batch)). c.loop-next.all.own ++ os) (sym (own_of_last left next) ∙ ap own_of (sym last)) ∙ so_far.own));
      parts = omega (arith, so_far.parts, ap (λ (j : JoinedView). j.parts) joined, ap length last, length-append left (next ∷ []));
      rising = λ all. so_far.rising (subst AreRising (sym last) (rising_last left next c.take_in.ensures.rising all));
    }
