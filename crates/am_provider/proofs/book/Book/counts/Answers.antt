use Rattle.std.proofs.Common.{subst}
use Rattle.am_provider.specs.BookView.{IsFaithful}
use Rattle.am_provider.proofs.Shelves.{faithful}
use Rattle.am_provider.proofs.book.Book.counts.Goals as goal

pub returns-clause-kept : goal.returns-clause-kept
returns-clause-kept g c = subst IsFaithful c.self.view_is (faithful _ _ _ c.self.invariant.0)
