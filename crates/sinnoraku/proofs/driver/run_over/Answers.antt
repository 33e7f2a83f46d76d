use Rattle.std.proofs.Common.{◌∙◌, sym}
use Rattle.std.proofs.lemmas.List.{length-map}
use Rattle.std.proofs.lemmas.List.Elements.{All-map}
use Rattle.am_provider.specs.Rising.{IsRising}
use Rattle.sinnoraku.proofs.driver.run_over.Goals as goal

pub returns-clause-driven : goal.returns-clause-driven
returns-clause-driven g c =
    let back = c.drive-outcome.result.1.items in
    let many = length-map back (λ caller. caller.pass) in
    record {
      passes = _;
      fronts = _;
      count = length-map back (λ caller. caller.front) ∙ sym many;
      comes_to = c.drive-outcome.ensures;
      settled = c.settle-settled.ensures.settled;
      rising = All-map (λ pass. IsRising pass.own) (λ caller. caller.pass) _ c.settle-settled.ensures.rising;
      complete = λ all. c.settle-settled.ensures.complete.1 (sym many ∙ (all ∙ (sym c.requires.parts.0 ∙ (sym c.args.parts.counted.0 ∙ c.requires.made.2))));
    }
