use Rattle.std.proofs.Common.{rules, arith}
use Rattle.am_store.proofs.Blocks.{drop_got, drop_missing}
use Rattle.am_store.proofs.shared_alerts.StoredIterIterator.next.Goals as goal

pub returns-in_err-alert-clause-steps : goal.returns-in_err-alert-clause-steps
returns-in_err-alert-clause-steps c = search (rules, drop_missing)

pub overflow_add-self : goal.overflow_add-self
overflow_add-self c = search (rules, arith)

pub returns-clause-steps : goal.returns-clause-steps
returns-clause-steps c = search (rules, drop_got)
