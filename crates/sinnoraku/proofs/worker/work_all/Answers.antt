use Rattle.std.proofs.Common.{rules, ◌≡◌, ◌∙◌, ◌<◌, get_or, length, map, sym, ap, subst}
use Rattle.std.specs.List.{All}
use Rattle.std.specs.Option.{IsSomeAnd}
use Rattle.sinnoraku.specs.Runs.{AreOutcomes}
use Rattle.sinnoraku.proofs.Lists.{take_all}
use Rattle.sinnoraku.proofs.Outcomes.{of_seats}
use Rattle.sinnoraku.proofs.worker.work_all.Goals as goal

pub returns-clause-outcomes : goal.returns-clause-outcomes
returns-clause-outcomes g c =
    let kept : length c.for_each_mut.new.s ≡ length c.args.seats.items = c.for_each_mut.auto.s ∙ ap length c.as_mut_slice.ensures.value in
    let whole = take_all c.args.seats.len c.for_each_mut.new.s _ (c.args.seats.ok.0 ∙ sym kept) in
    subst (λ seats. AreOutcomes (λ index front outcome. IsSomeAnd outcome (g.W.Worker.comes_to c.args.worker.now c.args.limits index front)) (map (λ seat. seat.client.caller.front) seats) (map (λ seat. seat.outcome) seats)) (sym whole)
    (of_seats (λ index front outcome. IsSomeAnd outcome (g.W.Worker.comes_to c.args.worker.now c.args.limits index front)) (λ seat. seat.client.caller.front) (λ seat. seat.outcome) c.for_each_mut.new.s (λ i d h.
    let within = subst (λ n. i < n) c.for_each_mut.auto.s h in
    let same = subst (All (λ seat. seat.client.limits ≡ c.args.limits)) (sym c.as_mut_slice.ensures.value) c.requires.limits i d within in
    let changes = (c.for_each_mut.ensures i d within).1 in
    subst (λ limits. IsSomeAnd (get_or c.for_each_mut.new.s i d).outcome (g.W.Worker.comes_to c.args.worker.now limits i (get_or c.for_each_mut.new.s i d).client.caller.front)) same (search rules)))
