use Rattle.std.proofs.Common.{◌≡◌, ◌-◌, length, subst, arith}
use Rattle.am_store.specs.Trims.{AreBeforeOpen}
use Rattle.am_provider.specs.BookView.{BookView}
use Rattle.am_store.proofs.Trimming.{before_earliest, before_none}
use Rattle.am_provider.proofs.book.Book.owed_from.Goals as goal

pub returns-in-Some-clause-before : goal.returns-in-Some-clause-before
returns-in-Some-clause-before g c =
    subst (λ (s : BookView). AreBeforeOpen s.journal (c.in-Some.open.now.at - s.journal.before)) c.self.view_is
    (before_earliest _ c.in-Some.open.now c.self.invariant.0.pages c.in-Some.ensures.some)

pub returns-in-None-clause-before : goal.returns-in-None-clause-before
returns-in-None-clause-before g c =
    let all : length c.self.inside.journal.journal.calls ≡ c.call_count.result - c.self.inside.journal.journal.before = omega (arith, c.call_count.ensures) in
    subst (λ (s : BookView). AreBeforeOpen s.journal (c.call_count.result - s.journal.before)) c.self.view_is
    (subst (AreBeforeOpen c.self.inside.journal.journal) all (before_none _ c.self.invariant.0.pages c.in-None.ensures.none))
