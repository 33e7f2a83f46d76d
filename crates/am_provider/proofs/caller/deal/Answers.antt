use Rattle.std.proofs.Common.{◌≡◌, ◌∙◌, ◌+◌, ◌-◌, ◌∷◌, [], length, sym, ap, rules, arith}
use Rattle.std.specs.Vec.Iter.{into_iter_items}
use Rattle.am_history.specs.Fronts.{FrontView}
use Rattle.am_provider.specs.Callers.{IsNewCaller}
use Rattle.am_provider.specs.Histories.{EntryView}
use Rattle.am_provider.proofs.Lists.{all_head, all_last, all_tail, length_last}
use Rattle.am_provider.proofs.caller.deal.Goals as goal

pub split_off-front-requires-clause-some : goal.split_off-front-requires-clause-some
split_off-front-requires-clause-some g c =
    let step : into_iter_items c.loop-pass.pass-iterator ≡ c.in-Some.pass ∷ into_iter_items c.next.new.self = search rules in
    omega (arith, ap (λ (f : FrontView EntryView). f.parts) c.loop-pass.invariant.front, ap length step)

pub split_off-front-requires-clause-last : goal.split_off-front-requires-clause-last
split_off-front-requires-clause-last g c = λ one. ap (λ (f : FrontView EntryView). f.made) c.loop-pass.invariant.front

pub loop-pass-preserved : goal.loop-pass-preserved
loop-pass-preserved g c =
    let step : into_iter_items c.loop-pass.pass-iterator ≡ c.in-Some.pass ∷ into_iter_items c.next.new.self = search rules in
    let rest = into_iter_items c.next.new.self in
    let here = all_head (λ pass. pass ≡ record { noted = []; own = [] }) c.in-Some.pass rest (into_iter_items c.loop-pass.pass-iterator) step c.loop-pass.invariant.rest in
    let front = c.loop-pass.invariant.front in
    let split = c.split_off-front.ensures in
    let fewer : length (into_iter_items c.loop-pass.pass-iterator) - 1 ≡ length rest = omega (arith, ap length step) in
    let seat : c.loop-pass.front.seat ≡ c.split_off-front.new.self.seat = sym (ap (λ (f : FrontView EntryView). f.seat) split.left) in
    let left : c.split_off-front.new.self ≡ record { seen = []; made = []; parts = length rest; seat = c.split_off-front.new.self.seat; looks = 0 } =
    split.left ∙ (ap (λ (f : FrontView EntryView). record f { parts = f.parts - 1 }) front ∙ (λ i. record { seen = []; made = []; parts = fewer i; seat = seat i; looks = 0 })) in
    let new : c.split_off-front.result ≡ record { seen = []; made = []; parts = 1; seat = c.split_off-front.result.seat; looks = 0 } =
    split.new ∙ ap (λ (f : FrontView EntryView). record { seen = f.seen; made = []; parts = 1; seat = c.split_off-front.result.seat; looks = 0 }) front in
    let long : length c.push_reserved.new.self.items ≡ length c.loop-pass.dealt.items + 1 = length_last _ _ _ c.push_reserved.ensures.items in
    record {
      front = left;
      rest = all_tail (λ pass. pass ≡ record { noted = []; own = [] }) c.in-Some.pass rest (into_iter_items c.loop-pass.pass-iterator) step c.loop-pass.invariant.rest;
      dealt = all_last (λ caller. IsNewCaller caller.pass caller.front) _ c.loop-pass.dealt.items c.push_reserved.new.self.items c.push_reserved.ensures.items c.loop-pass.invariant.dealt (here, new);
      count = omega (arith, c.loop-pass.invariant.count, ap length step, long);
      room = omega (arith, c.loop-pass.invariant.room, ap length step, c.push_reserved.ensures.len, c.push_reserved.ensures.capacity);
    }
