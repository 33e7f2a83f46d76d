use Rattle.std.proofs.Common.{◌≡◌, ◌∷◌, [], length, ap, rules, arith, length-append}
use Rattle.std.specs.Vec.Iter.{into_iter_items}
use Rattle.am_provider.proofs.Lists.{all_head, all_last, all_tail}
use Rattle.am_provider.proofs.pass.deal.Goals as goal

pub loop-pass-preserved : goal.loop-pass-preserved
loop-pass-preserved g c =
    let step : into_iter_items c.loop-pass.pass-iterator ≡ c.in-Some.pass ∷ into_iter_items c.next.new.self = search rules in
    let here = all_head (λ pass. pass ≡ record { noted = []; own = [] }) c.in-Some.pass (into_iter_items c.next.new.self) (into_iter_items c.loop-pass.pass-iterator) step c.loop-pass.invariant.rest in
    record {
      parts = omega (arith, c.loop-pass.invariant.parts, ap length step, c.split_off-share.ensures.parts_left);
      none = omega (arith, c.loop-pass.invariant.none, c.split_off-share.ensures.amount_left);
      rest = all_tail (λ pass. pass ≡ record { noted = []; own = [] }) c.in-Some.pass (into_iter_items c.next.new.self) (into_iter_items c.loop-pass.pass-iterator) step c.loop-pass.invariant.rest;
      dealt = all_last (λ pass. pass ≡ record { noted = []; own = [] }) c.in-Some.pass c.loop-pass.dealt.items c.push_reserved.new.self.items c.push_reserved.ensures.items c.loop-pass.invariant.dealt here;
      count = omega (arith, c.loop-pass.invariant.count, ap length step, ap length c.push_reserved.ensures.items, length-append c.loop-pass.dealt.items (c.in-Some.pass ∷ []));
      room = omega (arith, c.loop-pass.invariant.room, ap length step, c.push_reserved.ensures.len, c.push_reserved.ensures.capacity);
    }
