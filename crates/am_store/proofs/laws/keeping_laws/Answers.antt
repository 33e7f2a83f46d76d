use Rattle.am_store.proofs.Keeping.{trimmed_between, trimmed_to_so}
use Rattle.am_store.proofs.laws.keeping_laws.Goals as goal

pub returns-clause-between : goal.returns-clause-between
returns-clause-between c = trimmed_between

pub returns-clause-any : goal.returns-clause-any
returns-clause-any c = trimmed_to_so
