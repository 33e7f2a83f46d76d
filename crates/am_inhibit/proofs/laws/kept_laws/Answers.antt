use Rattle.am_inhibit.proofs.KeptAlerts.{kept_without_sweeps, kept_goes_on, kept-sweep, kept_is_held}
use Rattle.am_inhibit.proofs.laws.kept_laws.Goals as goal

pub returns-clause-last : goal.returns-clause-last
returns-clause-last c = kept_without_sweeps

pub returns-clause-go_on : goal.returns-clause-go_on
returns-clause-go_on c events = (kept_goes_on events, kept-sweep events)

pub returns-clause-held : goal.returns-clause-held
returns-clause-held c = kept_is_held
