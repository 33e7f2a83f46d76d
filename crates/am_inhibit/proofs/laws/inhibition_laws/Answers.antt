use Rattle.am_inhibit.proofs.Muting.{last_alerts_go_on, last_alerts_decide, no_alert_mutes_itself}
use Rattle.am_inhibit.proofs.laws.inhibition_laws.Goals as goal

pub returns-clause-last_alerts : goal.returns-clause-last_alerts
returns-clause-last_alerts c = last_alerts_go_on

pub returns-clause-decide : goal.returns-clause-decide
returns-clause-decide c = last_alerts_decide

pub returns-clause-itself : goal.returns-clause-itself
returns-clause-itself c = no_alert_mutes_itself
