use Rattle.am_provider.proofs.Owing.{beginning_is_known, closed_owes_no_more, stays_front_of_due}
use Rattle.am_provider.proofs.Pending.{pending_owes_nothing}
use Rattle.am_provider.proofs.laws.history_laws.Goals as goal

pub returns : goal.returns
returns c = record { front = stays_front_of_due; known = beginning_is_known; closed = closed_owes_no_more; pending = pending_owes_nothing }
