use Rattle.std.proofs.Common.{◌≡◌, ◌<◌, ◌+◌, ℕ, List, IfOk, subst, ◌∙◌}
use Rattle.am_alert.specs.declared.alert.Alert.{Alert}
use Rattle.am_store.specs.Journal.{first_calls}
use Rattle.am_store.specs.AlertMaps.{stored_in}
use Rattle.am_store.specs.Stored.{updates, stored}
use Rattle.am_store.specs.Trims.{AreBeforeOpen}
use Rattle.am_provider.specs.BookView.{BookView}
use Rattle.am_store.proofs.Trimming.{store_then, store_now, if_ok}
use Rattle.am_provider.proofs.book.Book.stored_then.Goals as goal

-- what is asked of the answer
IsThat : BookView → List Alert → Type 0
IsThat book store = (count : ℕ) → AreBeforeOpen book.journal count → book.gone < book.journal.before + count → store ≡ stored (updates (first_calls count book.journal))

pub returns-in-Some-clause-stored : goal.returns-in-Some-clause-stored
unfolding IsThat
returns-in-Some-clause-stored g c =
    subst (λ (s : BookView). IfOk c.share.result (IsThat s)) c.self.view_is
    (if_ok (λ shared. shared ≡ c.in-Some.open.now.opening) _ c.share.result
    (λ store same count before late. same ∙ store_then _ c.in-Some.open.now c.self.invariant.0.pages c.in-Some.ensures.some count before late) c.share.ensures)

pub returns-in-None-clause-stored : goal.returns-in-None-clause-stored
unfolding IsThat
returns-in-None-clause-stored g c =
    subst (λ (s : BookView). IfOk c.share_all.result (IsThat s)) c.self.view_is
    (if_ok (λ shared. shared ≡ stored_in c.self.inside.stored) _ c.share_all.result
    (λ store same count before late. same ∙ store_now _ c.self.invariant.0.pages c.in-None.ensures.none count before) c.share_all.ensures.shared)
