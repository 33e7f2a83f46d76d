use Rattle.std.proofs.Common.{◌∙◌, filter, ap, nat_le, subst}
use Rattle.am_provider.specs.declared.answers.Ended.{Ended}
use Rattle.am_provider.specs.BookView.{BookView, IsFaithful}
use Rattle.am_provider.specs.inside.Endings.{is_since}
use Rattle.am_provider.proofs.Shelves.{faithful}
use Rattle.am_provider.proofs.book.Book.into_parts.Goals as goal

pub returns-clause-faithful : goal.returns-clause-faithful
returns-clause-faithful g c = subst IsFaithful c.self.view_is (faithful _ _ _ c.self.invariant.0)

pub returns-clause-ended : goal.returns-clause-ended
returns-clause-ended g c =
    c.into_held-ended.ensures.held
    ∙ (ap (λ n. filter (is_since n) c.self.inside.endings.endings) c.self.invariant.3.gone
    ∙ ap (λ (b : BookView). filter (λ (ended : Ended). nat_le b.gone ended.at) b.endings) c.self.view_is)
