use Rattle.std.proofs.Common.{◌≡◌, ◌≤◌, [], refl, ap, ◌∙◌, false, arith}
use Rattle.am_store.specs.declared.call.Call.TheVariants.{Posted}
use Rattle.am_store.specs.Journal.{JournalView, with_call, is_closed}
use Rattle.am_provider.specs.BookView.{BookView}
use Rattle.am_provider.proofs.Calls.{kept_empty}
use Rattle.am_provider.proofs.Endings.{still_endings_of}
use Rattle.am_provider.proofs.book.Book.post_nothing.Goals as goal

pub invariant_of-self-2 : goal.invariant_of-self-2
invariant_of-self-2 g c =
    let room : 9 ≤ c.push.new.self.room = omega (arith, c.in_ok-reserve.ensures.room, c.push.ensures.room) in
    let gone : c.push.new.self.gone ≡ c.self.inside.journal.gone = c.push.ensures.gone.0 ∙ c.in_ok-reserve.ensures.same.1 in
    let journal : c.push.new.self.journal ≡ with_call c.self.inside.journal.journal (Posted c.args.now []) =
    c.push.ensures.journal ∙ (ap (λ (j : JournalView). with_call j (Posted c.args.now c.args.none)) c.in_ok-reserve.ensures.same.0
    ∙ ap (λ news. with_call c.self.inside.journal.journal (Posted c.args.now news)) c.requires.none) in
    let still : is_closed c.self.inside.journal.journal ≡ false = ap (λ (b : BookView). is_closed b.journal) c.self.view_is ∙ c.requires.open in (
      kept_empty _ _ _ _ c.args.now c.self.invariant.0 (c.self.invariant.0.pages.closed ∙ still) journal refl refl refl refl refl refl gone room,
      c.self.invariant.1,
      c.self.invariant.2,
      still_endings_of _ _ _ _ c.self.invariant.3 refl refl (ap (λ (j : JournalView). j.before) journal) gone,
    )
