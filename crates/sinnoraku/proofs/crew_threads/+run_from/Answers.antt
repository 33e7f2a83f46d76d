use Rattle.std.proofs.Common.{◌≡◌, ◌∙◌, ◌+◌, ◌∷◌, [], ap, arith, length, map, sym, subst, vec_len, rules}
use Rattle.std.specs.Prelude.{IfSome}
use mathlib.Core.List.{IsPrefix}
use Rattle.std.proofs.lemmas.List.{length-append, length-map, map-append}
use Rattle.am_provider.specs.Callers.{IsNewCaller}
use Rattle.sinnoraku.specs.declared.crew_threads.CrewPromise.{CrewPromise}
use Rattle.sinnoraku.proofs.Crews.{all_end, all_init, if_ok_all, no_outcomes, of_some, one_more_outcome}
use Rattle.sinnoraku.proofs.crew_threads.+run_from.Goals as goal

pub returns-in_default : goal.returns-in_default
returns-in_default g measure c =
    let none = c.none.ensures in (
      ap length none.1 ∙ sym c.in_default.ensures.cases.0,
      λ turns seen. no_outcomes (λ index one. g.C.Crew.comes_to c.args.shared.now.crew.now c.args.shared.now.limits turns index one.0 one.1) (map (λ caller. (caller.pass, caller.front)) c.none.result.callers.items) c.none.result.outcomes.items (ap (map (λ caller. (caller.pass, caller.front))) none.1) none.0,
    )

pub run_from-others-requires-clause-fresh : goal.run_from-others-requires-clause-fresh
run_from-others-requires-clause-fresh g measure c lifetimes outlive =
    all_init (λ caller. IsNewCaller caller.pass caller.front) c.pop.new.self.items c.in-Some.caller c.args.callers.items c.in-Some.ensures.items c.requires.fresh

pub spawn_with-requires-clause-runs : goal.spawn_with-requires-clause-runs
spawn_with-requires-clause-runs g t c κs within = (
  (
    c.requires.fits,
    all_end (λ caller. IsNewCaller caller.pass caller.front) c.pop.new.self.items c.in-Some.caller c.args.callers.items c.in-Some.ensures.items c.requires.fresh,
    omega (arith, c.len-index.ensures, c.in-Some.ensures.cases, c.requires.count),
  ),
  (search rules, search rules, search rules, search rules, search rules, search rules, search rules),
)

pub returns : goal.returns
returns g measure c =
    let crew = c.args.shared.now.crew.now in
    let limits = c.args.shared.now.limits in
    let caller = c.join-ended.result.caller in
    let others = c.in_ok-others.field-0 in
    let before = others.0 in
    let more : vec_len c.args.callers ≡ vec_len c.pop.new.self + 1 = sym c.in-Some.ensures.cases in
    let made = c.by-promise.result in
    let promised = c.by-promise.ensures in
    let number : c.len-index.result ≡ vec_len c.pop.new.self = search rules in
    if_ok_all c.with_last.result _ _ _ _
    (λ all longer seen_longer came. (
      ap length longer ∙ (length-append before.callers.items (caller ∷ []) ∙ (ap (λ n. n + 1) c.in_ok-others.ensures.0 ∙ sym more)),
      λ turns seen.
          let thread_seen = c.join-ended.result.seen in
          let earlier = c.in_ok-others.ensures.1 turns (all_init (λ one. IsPrefix one.seen turns) others.1.items thread_seen all.1.items seen_longer seen) in
          let last = all_end (λ one. IsPrefix one.seen turns) others.1.items thread_seen all.1.items seen_longer seen in
          let kept : IfSome c.join-ended.result.outcome (g.C.Crew.comes_to made.crew.now made.limits turns made.index caller.pass caller.front) =
          subst (λ (p : CrewPromise _ _). IfSome c.join-ended.result.outcome (g.C.Crew.comes_to p.crew.now p.limits turns p.index caller.pass caller.front)) c.in-Ok.ensures.ok (c.join-ended.ensures turns last) in
          let works : IfSome c.join-ended.result.outcome (g.C.Crew.comes_to crew limits turns c.len-index.result caller.pass caller.front) = rw (promised.crew, promised.limits, promised.index) at kept in
          one_more_outcome (λ index one. g.C.Crew.comes_to crew limits turns index one.0 one.1)
          (map (λ caller. (caller.pass, caller.front)) before.callers.items) (caller.pass, caller.front) before.outcomes.items came.0 (map (λ caller. (caller.pass, caller.front)) all.0.callers.items) all.0.outcomes.items
          (ap (map (λ caller. (caller.pass, caller.front))) longer ∙ map-append (λ caller. (caller.pass, caller.front)) before.callers.items (caller ∷ []))
          came.2 earlier
          (subst (λ n. g.C.Crew.comes_to crew limits turns n caller.pass caller.front came.0) (sym (length-map before.callers.items _ ∙ (c.in_ok-others.ensures.0 ∙ sym number)))
          (of_some (g.C.Crew.comes_to crew limits turns c.len-index.result caller.pass caller.front) c.join-ended.result.outcome came.0 came.1 works)),
    ))
    c.with_last.ensures.callers c.with_last.ensures.seen c.with_last.ensures.outcome
