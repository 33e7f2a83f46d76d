use Rattle.std.proofs.Common.{arith, length-append}
use Rattle.std.proofs.lemmas.Grind.{common_steps}
use Rattle.am_inhibit.specs.LastAlerts.{label_sets}
use Rattle.am_inhibit.proofs.LastAlerts.{with_last_alert-new}
use Rattle.am_inhibit.proofs.KeptAlerts.{with_last_alert-last}
use Rattle.am_inhibit.proofs.Indexes.{are_indexes-with}
use Rattle.am_inhibit.proofs.inhibitor.Inhibitor.begin.Goals as goal

pub invariant_of-self-in-Ok-1 : goal.invariant_of-self-in-Ok-1
invariant_of-self-in-Ok-1 c =
    let rules_now = c.self.inside.rules.now in
    let alerts = c.self.inside.alerts in
    let alert = c.args.alert.now in
    let items = c.self.inside.indexes.items in
    let are = are_indexes-with rules_now (label_sets alerts) alert.labels items c.self.invariant.0 in
    grind (arith, common_steps, length-append, with_last_alert-new)

pub returns-in-Ok-clause-taken : goal.returns-in-Ok-clause-taken
returns-in-Ok-clause-taken c = grind (arith, common_steps, with_last_alert-last)
