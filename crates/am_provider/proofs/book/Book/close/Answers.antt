use Rattle.std.proofs.Common.{◌≡◌, refl, ap, false}
use Rattle.am_store.specs.Journal.{JournalView}
use Rattle.am_provider.proofs.Calls.{kept_closed}
use Rattle.am_provider.proofs.Endings.{still_endings_of}
use Rattle.am_provider.proofs.book.Book.close.Goals as goal

pub invariant_of-self : goal.invariant_of-self
invariant_of-self g c =
    let still : c.self.inside.log.tail.closed ≡ false = c.in-Ok.ensures.open.0 refl in (
      kept_closed _ _ _ _ c.self.invariant.0 still c.push.ensures.journal refl c.in-Ok.ensures.ok refl refl refl refl c.push.ensures.gone.0 c.push.ensures.room,
      c.self.invariant.1,
      c.self.invariant.2,
      still_endings_of _ _ _ _ c.self.invariant.3 refl refl (ap (λ (j : JournalView). j.before) c.push.ensures.journal) c.push.ensures.gone.0,
    )
