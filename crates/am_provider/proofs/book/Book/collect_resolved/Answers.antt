use Rattle.std.proofs.Common.{◌≡◌, ◌≤◌, refl, sym, ap, ◌∙◌, arith}
use Rattle.std.proofs.lemmas.List.{append-nil}
use Rattle.am_store.specs.declared.call.Call.TheVariants.{Collected}
use Rattle.am_store.specs.Journal.{JournalView, with_call}
use Rattle.am_store.proofs.Kept.{sound_collected}
use Rattle.am_provider.proofs.Endings.{still_endings_of}
use Rattle.am_provider.proofs.Shelves.{kept_grown, same_account}
use Rattle.am_provider.proofs.book.Book.collect_resolved.Goals as goal

pub invariant_of-self-2 : goal.invariant_of-self-2
invariant_of-self-2 g c =
    let room : 9 ≤ c.push.new.self.room = omega (arith, c.in_ok-reserve.ensures.room, c.push.ensures.room) in
    let gone : c.push.new.self.gone ≡ c.self.inside.journal.gone = c.push.ensures.gone.0 ∙ c.in_ok-reserve.ensures.same.1 in
    let journal : c.push.new.self.journal ≡ with_call c.self.inside.journal.journal (Collected c.args.now) =
    c.push.ensures.journal ∙ ap (λ (j : JournalView). with_call j (Collected c.args.now)) c.in_ok-reserve.ensures.same.0 in
    let kept = c.self.invariant.0 in (
      kept_grown _ _ _ _ _ _ (Collected c.args.now) kept
          (sound_collected _ _ c.args.now kept.pages journal c.remove_resolved-removed.ensures.store refl refl refl refl gone room)
          tt (λ came. refl) journal (sym (append-nil _)) refl (λ lane small. same_account _ _ refl) refl refl kept.total (omega arith),
      c.self.invariant.1,
      c.self.invariant.2,
      still_endings_of _ _ _ _ c.self.invariant.3 refl refl (ap (λ (j : JournalView). j.before) journal) gone,
    )
