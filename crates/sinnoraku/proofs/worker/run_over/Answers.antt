use Rattle.std.proofs.Common.{◌≡◌, ◌∙◌, length, sym, ap}
use Rattle.std.proofs.lemmas.List.{length-map}
use Rattle.std.proofs.lemmas.List.Elements.{All-map}
use Rattle.am_provider.specs.Callers.{IsNewCaller}
use Rattle.am_provider.specs.Rising.{IsRising}
use Rattle.sinnoraku.proofs.Outcomes.{all_some, of_callers, outcomes_of}
use Rattle.sinnoraku.proofs.worker.run_over.Goals as goal

pub work_all-seats-requires-clause-fresh : goal.work_all-seats-requires-clause-fresh
work_all-seats-requires-clause-fresh g c κs within = of_callers (λ caller. IsNewCaller caller.pass caller.front) (λ seat. seat.client.caller) c.seat_all-seats.result.items _ c.seat_all-seats.ensures.callers c.in_ok-provider.ensures.callers.1

pub unseat_all-outcomes-requires-clause-done : goal.unseat_all-outcomes-requires-clause-done
unseat_all-outcomes-requires-clause-done g c = all_some (g.W.Worker.comes_to c.args.worker.now c.args.limits) (λ seat. seat.client.caller.front) (λ seat. seat.outcome) c.work_all-seats.result.items c.work_all-seats.ensures.outcomes

pub returns : goal.returns
returns g c =
    let long : length c.unseat_all-outcomes.result.1.items ≡ c.args.limits.callers = ap length c.unseat_all-outcomes.ensures.callers ∙ (length-map c.work_all-seats.result.items _ ∙ c.work_all-seats.ensures.count) in
    record {
      passes = _;
      fronts = _;
      count = length-map _ (λ caller. caller.front) ∙ long;
      comes_to = outcomes_of (g.W.Worker.comes_to c.args.worker.now c.args.limits) (λ seat. seat.client.caller) (λ caller. caller.front) (λ seat. seat.outcome) c.work_all-seats.result.items _ _ c.unseat_all-outcomes.ensures.callers c.unseat_all-outcomes.ensures.outcomes c.work_all-seats.ensures.outcomes;
      settled = c.settle-settled.ensures.settled;
      rising = All-map (λ pass. IsRising pass.own) (λ caller. caller.pass) _ c.settle-settled.ensures.rising;
      complete = c.settle-settled.ensures.complete.1 (long ∙ (sym c.requires.parts.0 ∙ (sym c.args.parts.counted.0 ∙ c.requires.made.2)));
    }
