use Rattle.std.proofs.Common.{subst}
use Rattle.am_provider.specs.BookView.{IsFaithful}
use Rattle.am_provider.proofs.Shelves.{faithful}
use Rattle.am_provider.proofs.book.Book.kept.Goals as goal

pub returns : goal.returns
returns g c = subst IsFaithful c.self.view_is (faithful _ _ _ c.self.invariant.0)
