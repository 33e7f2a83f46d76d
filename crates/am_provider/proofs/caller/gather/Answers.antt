use Rattle.std.proofs.Common.{◌≡◌, ◌∙◌, ◌+◌, ◌++◌, ◌∷◌, [], List, length, map, sym, ap, subst, arith}
use Rattle.std.specs.List.{All}
use mathlib.Core.List.{IsPrefix}
use Rattle.std.proofs.lemmas.List.{append_assoc, append-nil, length-map}
use Rattle.am_cast.specs.declared.views.Own.{Own}
use Rattle.am_history.specs.Fronts.{FrontView}
use Rattle.am_history.specs.declared.views.Made.{Made}
use Rattle.am_provider.specs.Batches.{Batch}
use Rattle.am_provider.specs.Histories.{EntryView}
use Rattle.am_provider.specs.Rising.{IsRising}
use Rattle.am_provider.specs.Settling.{JoinedView, made_of, own_of}
use Rattle.am_provider.proofs.Gathering.{all_map, made_last, own_last}
use Rattle.am_provider.proofs.Lists.{all_last, empty, length_last}
use Rattle.am_provider.proofs.caller.gather.Goals as goal

pub returns-in-None-clause-gathered : goal.returns-in-None-clause-gathered
returns-in-None-clause-gathered g c =
    let none = empty c.args.callers.items (sym c.args.callers.ok.0 ∙ c.in-None.ensures.cases.0) in
    (ap (map (λ caller. caller.pass)) none, ap (map (λ caller. caller.front)) none)

pub loop-next-init : goal.loop-next-init
loop-next-init g c =
    let left = c.pop.new.self.items in
    let first = c.in-Some.first in
    let last : c.args.callers.items ≡ left ++ first ∷ [] = c.in-Some.ensures.items in
    let long : length c.args.callers.items ≡ length left + 1 = length_last first left c.args.callers.items last in
    let shown : c.show.new.to ≡ record first.front { seen = c.args.history.now; looks = first.front.looks + 1 } = c.show.ensures.to in
    let joined : c.of-passes.result ≡ record { parts = 1; own = first.pass.own } = c.of-passes.ensures.joined in
    let one = first.one in
    record {
      same = c.show.ensures.same;
      seen = ap (λ (f : FrontView EntryView). f.seen) shown;
      made = ap (λ (f : FrontView EntryView). f.made ++ made_of (map (λ caller. caller.front) left)) shown ∙ sym (made_last (λ caller. caller.front) left first c.args.callers.items last);
      parts = omega (arith, ap (λ (f : FrontView EntryView). f.parts) shown, one, long);
      own = ap (λ (j : JoinedView). j.own ++ own_of (map (λ caller. caller.pass) left)) joined ∙ sym (own_last (λ caller. caller.pass) left first c.args.callers.items last);
      count = omega (arith, ap (λ (j : JoinedView). j.parts) joined, long);
      prefixes = λ all. all_last (λ caller. IsPrefix caller.front.seen c.args.history.now) first left c.args.callers.items last all c.show.ensures.seen;
      rising = λ all. all_last (λ caller. IsRising caller.pass.own) first left c.args.callers.items last all c.of-passes.ensures.rising;
    }

pub loop-next-preserved : goal.loop-next-preserved
loop-next-preserved g c =
    let left = c.pop-in-loop-next.new.self.items in
    let next = c.in-Some-pop.next in
    let last : c.loop-next.left.items ≡ left ++ next ∷ [] = c.in-Some-pop.ensures.items in
    let long : length c.loop-next.left.items ≡ length left + 1 = length_last next left c.loop-next.left.items last in
    let so_far = c.loop-next.invariant in
    let shown : c.show-in-Some-pop.new.to ≡ record next.front { seen = c.loop-next.history; looks = next.front.looks + 1 } = c.show-in-Some-pop.ensures.to in
    let merged = c.merge.ensures in
    let joined = c.take_in.ensures.joined in
    let one = next.one in
    let other : c.show-in-Some-pop.new.to.parts ≡ 1 = ap (λ (f : FrontView EntryView). f.parts) shown ∙ one in
    let seen = subst (IsPrefix next.front.seen) so_far.same c.show-in-Some-pop.ensures.seen in
    record {
      same = c.show-in-Some-pop.ensures.same ∙ so_far.same;
      seen = ap (λ (f : FrontView EntryView). f.seen) merged ∙ so_far.seen;
      made = ap (λ (f : FrontView EntryView). f.made ++ made_of (map (λ caller. caller.front) left)) merged
          ∙ (append_assoc c.loop-next.front.made c.show-in-Some-pop.new.to.made (made_of (map (λ caller. caller.front) left))
          ∙ (ap (λ (made : List (Made EntryView)). c.loop-next.front.made ++ made) (ap (λ (f : FrontView EntryView). f.made ++ made_of (map (λ caller. caller.front) left)) shown
          ∙ sym (made_last (λ caller. caller.front) left next c.loop-next.left.items last)) ∙ so_far.made));
      parts = omega (arith, so_far.parts, ap (λ (f : FrontView EntryView). f.parts) merged, other, long);
      own = ap (λ (j : JoinedView). j.own ++ own_of (map (λ caller. caller.pass) left)) joined
          ∙ (append_assoc c.loop-next.passes.own next.pass.own (own_of (map (λ caller. caller.pass) left))
          ∙ (ap (λ (own : List (Own Batch)). c.loop-next.passes.own ++ own) (sym (own_last (λ caller. caller.pass) left next c.loop-next.left.items last)) ∙ so_far.own));
      count = omega (arith, so_far.count, ap (λ (j : JoinedView). j.parts) joined, long);
      prefixes = λ all. so_far.prefixes (all_last (λ caller. IsPrefix caller.front.seen c.args.history.now) next left c.loop-next.left.items last all seen);
      rising = λ all. so_far.rising (all_last (λ caller. IsRising caller.pass.own) next left c.loop-next.left.items last all c.take_in.ensures.rising);
    }

pub returns-clause-gathered : goal.returns-clause-gathered
returns-clause-gathered g c =
    let left = c.loop-next.left.items in
    let none : left ≡ [] = empty left (sym c.loop-next.left.ok.0 ∙ c.in_default.ensures.cases.0) in
    let so_far = c.loop-next.invariant in
    let callers = c.args.callers.items in
    let passes : c.loop-next.passes.parts ≡ length (map (λ caller. caller.pass) callers) = omega (arith, so_far.count, ap length none, length-map callers (λ caller. caller.pass)) in
    let own : c.loop-next.passes.own ≡ own_of (map (λ caller. caller.pass) callers) =
    sym (append-nil c.loop-next.passes.own) ∙ (ap (λ l. c.loop-next.passes.own ++ own_of (map (λ caller. caller.pass) l)) (sym none) ∙ so_far.own) in
    let made : c.loop-next.front.made ≡ made_of (map (λ caller. caller.front) callers) =
    sym (append-nil c.loop-next.front.made) ∙ (ap (λ l. c.loop-next.front.made ++ made_of (map (λ caller. caller.front) l)) (sym none) ∙ so_far.made) in
    let parts : c.loop-next.front.parts ≡ length (map (λ caller. caller.front) callers) = omega (arith, so_far.parts, ap length none, length-map callers (λ caller. caller.front)) in
    let nobody : All (λ caller. IsPrefix caller.front.seen c.args.history.now) left = subst (All (λ caller. IsPrefix caller.front.seen c.args.history.now)) (sym none) (λ k d h. absurd (omega arith)) in (
      λ i. record { parts = passes i; own = own i },
      λ i. record c.loop-next.front { seen = so_far.seen i; made = made i; parts = parts i },
      all_map (λ (f : FrontView EntryView). IsPrefix f.seen c.args.history.now) (λ caller. caller.front) callers (so_far.prefixes nobody),
    )
