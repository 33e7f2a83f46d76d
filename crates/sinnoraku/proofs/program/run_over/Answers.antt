use Rattle.std.proofs.Common.{◌≡◌, ◌∙◌, ◌≤◌, length, map, sym, ap, subst, vec_capacity}
use Rattle.std.specs.List.{All}
use Rattle.std.proofs.lemmas.List.{length-map}
use Rattle.std.proofs.lemmas.List.Elements.{All-map}
use Rattle.am_provider.specs.Callers.{IsNewCaller}
use Rattle.am_provider.specs.Rising.{IsRising}
use Rattle.sinnoraku.proofs.Lists.{take_all}
use Rattle.sinnoraku.proofs.Outcomes.{fronts_of, of_callers}
use Rattle.sinnoraku.proofs.program.run_over.Goals as goal
use Rattle.sinnoraku.proofs.program.run_over.Goals.{After-as_mut_slice}

-- there are as many clients as the limits say
count : (g : _) (c : goal.After-as_mut_slice g) → length c.as_mut_slice.result.now ≡ c.args.limits.callers
count g c =
    ap length c.as_mut_slice.ensures.value
    ∙ (sym (length-map c.clients_of-clients.result.items (λ client. client.caller)) ∙ (ap length c.clients_of-clients.ensures.callers ∙ (c.in_ok-provider.ensures.callers.0 ∙ c.requires.parts.0)))

pub run-outcome-requires-clause-fresh : goal.run-outcome-requires-clause-fresh
run-outcome-requires-clause-fresh g c =
    subst (All (λ client. IsNewCaller client.caller.pass client.caller.front)) (sym c.as_mut_slice.ensures.value)
    (of_callers (λ caller. IsNewCaller caller.pass caller.front) (λ client. client.caller) c.clients_of-clients.result.items _ c.clients_of-clients.ensures.callers c.in_ok-provider.ensures.callers.1)

pub run-outcome-requires-clause-count : goal.run-outcome-requires-clause-count
run-outcome-requires-clause-count g c = λ k d h.
    ap (λ limits. limits.callers) (subst (All (λ client. client.limits ≡ c.args.limits)) (sym c.as_mut_slice.ensures.value) c.clients_of-clients.ensures.limits k d h) ∙ sym (count g c)

pub callers_of-callers-requires : goal.callers_of-callers-requires
callers_of-callers-requires g c =
    let kept = c.run-outcome.auto.clients ∙ ap length c.as_mut_slice.ensures.value in
    let whole = take_all c.clients_of-clients.result.len c.run-outcome.new.clients _ (c.clients_of-clients.result.ok.0 ∙ sym kept) in
    (c.in-Ok.ensures.callers.0, subst (λ n. n ≤ vec_capacity c.in-Ok.rooms.callers) (sym (ap length whole ∙ (c.run-outcome.auto.clients ∙ count g (goal.at.callers_of-callers-requires g c).After-as_mut_slice))) c.in-Ok.ensures.callers.1)

pub returns : goal.returns
returns g c =
    let kept = c.run-outcome.auto.clients ∙ ap length c.as_mut_slice.ensures.value in
    let whole = take_all c.clients_of-clients.result.len c.run-outcome.new.clients _ (c.clients_of-clients.result.ok.0 ∙ sym kept) in
    let long = ap length whole ∙ (c.run-outcome.auto.clients ∙ count g (goal.at.returns g c).After-as_mut_slice) in
    let callers : length c.callers_of-callers.result.items ≡ c.args.limits.callers = ap length c.callers_of-callers.ensures ∙ (length-map _ (λ client. client.caller) ∙ long) in
    let fronts = ap (map (λ caller. caller.front)) c.callers_of-callers.ensures ∙ (sym (fronts_of (λ client. client.caller) (λ caller. caller.front) _) ∙ ap (map (λ client. client.caller.front)) whole) in
    record {
      passes = _;
      fronts = _;
      count = length-map _ (λ caller. caller.front) ∙ callers;
      comes_to = subst (λ fronts. g.P.Program.comes_to c.args.program c.args.limits fronts c.run-outcome.result) (sym fronts)
          (c.run-outcome.ensures c.args.limits (subst (All (λ client. client.limits ≡ c.args.limits)) (sym c.as_mut_slice.ensures.value) c.clients_of-clients.ensures.limits));
      settled = c.settle-settled.ensures.settled;
      rising = All-map (λ pass. IsRising pass.own) (λ caller. caller.pass) _ c.settle-settled.ensures.rising;
      complete = c.settle-settled.ensures.complete.1 (callers ∙ (sym c.requires.parts.0 ∙ (sym c.args.parts.counted.0 ∙ c.requires.made.2)));
    }
