use Rattle.std.proofs.Common.{arith}
use Rattle.std.proofs.lemmas.Grind.{common_steps}
use Rattle.am_inhibit.proofs.LastAlerts.{label_sets-kept, length-kept}
use Rattle.am_inhibit.proofs.KeptAlerts.{with_last_alert-last}
use Rattle.am_inhibit.proofs.inhibitor.Inhibitor.take.Goals as goal

pub invariant_of-self-2 : goal.invariant_of-self-2
invariant_of-self-2 c = grind (arith, common_steps, label_sets-kept, length-kept)

pub returns-clause-taken : goal.returns-clause-taken
returns-clause-taken c = grind (arith, common_steps, with_last_alert-last)
