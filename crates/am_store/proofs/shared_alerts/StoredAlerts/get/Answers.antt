use Rattle.std.proofs.Common.{rules}
use Rattle.am_store.proofs.Blocks.{first_of_run}
use Rattle.am_store.proofs.shared_alerts.StoredAlerts.get.Goals as goal

pub returns-clause-found : goal.returns-clause-found
returns-clause-found c = search (rules, first_of_run)
