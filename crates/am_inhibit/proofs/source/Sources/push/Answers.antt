use Rattle.std.proofs.Common.{arith}
use Rattle.std.proofs.lemmas.Grind.{common_steps}
use Rattle.am_inhibit.proofs.LeadingTargets.{leading-all, leading-not_all}
use Rattle.am_inhibit.proofs.source.Sources.push.Goals as goal

pub invariant_of-self-then-source : goal.invariant_of-self-then-source
invariant_of-self-then-source c = grind (arith, common_steps, leading-all)

pub invariant_of-self-else-source : goal.invariant_of-self-else-source
invariant_of-self-else-source c = grind (arith, common_steps, leading-all)

pub invariant_of-self-else-all_lead : goal.invariant_of-self-else-all_lead
invariant_of-self-else-all_lead c = grind (arith, common_steps, leading-not_all)
