use Rattle.std.proofs.Common.{◌∙◌, sym}
use Rattle.sinnoraku.proofs.Crews.{settled_crew}
use Rattle.sinnoraku.proofs.crew.run_over.Goals as goal

pub returns-in-Ok : goal.returns-in-Ok
returns-in-Ok g c =
    let done = c.in-Ok.field-0 in
    settled_crew (g.C.Crew.comes_to c.args.crew.now c.args.limits) c.args.limits.callers (λ caller. caller.pass) (λ caller. caller.front) done.callers.items done.outcomes.items c.settle-settled.result
    (c.in-Ok.ensures.1, c.in-Ok.ensures.2) c.in-Ok.ensures.0 c.settle-settled.ensures.settled c.settle-settled.ensures.rising
    (λ many. c.settle-settled.ensures.complete.1 (many ∙ (sym c.requires.parts.0 ∙ (sym c.args.parts.counted.0 ∙ c.requires.made.2))))
