use Rattle.std.proofs.Common.{◌≡◌, ◌<◌, ◌∷◌, [], None, length, length-append, set, refl, ap, subst, ◌∙◌, ℕ, arith, true}
use Rattle.am_store.specs.declared.call.Call.{Call}
use Rattle.am_store.specs.declared.call.Call.TheVariants.{Left}
use Rattle.am_store.specs.Journal.{JournalView, with_call}
use Rattle.am_alert.specs.declared.alert.Alert.{Alert}
use Rattle.am_store.specs.declared.lanes.OpenLane.{OpenLane}
use Rattle.am_cast.specs.Cursors.{CursorView}
use Rattle.am_cast.specs.Changes.{left}
use Rattle.am_cast.specs.Rule.{Sound, cut}
use Rattle.am_cast.specs.Seats.{account_of}
use Rattle.am_provider.specs.declared.answers.Ended.{Ended}
use Rattle.am_provider.specs.BookView.{BookView}
use Rattle.am_provider.specs.Vouching.{HasTakenDue}
use Rattle.am_provider.proofs.Endings.{still_endings_of}
use Rattle.am_provider.proofs.Calls.{leaving_by, has_taken, all_counted, room_for_left, room_for_ending, kept_left}
use Rattle.am_provider.proofs.book.Book.leave.Goals as goal

pub push-requires-clause-room : goal.push-requires-clause-room
push-requires-clause-room g c =
    let r = c.retire.ensures in
    let by = leaving_by _ _ _ c.into_parts-at.result.1 c.args.subscription c.into_parts-at.result.3 c.self.invariant.0 c.into_parts-at.ensures.kept c.into_parts-at.ensures.parts.2 r.lane.0 r.given r.sound r.taken r.ended in
    room_for_left _ _ _ c.args.subscription by.0 c.self.invariant.0 by.1

pub push-requires-2-clause-room : goal.push-requires-2-clause-room
push-requires-2-clause-room g c =
    let r = c.retire.ensures in
    let same = c.into_parts-at.ensures.parts.2 in
    let by = leaving_by _ _ _ c.into_parts-at.result.1 c.args.subscription c.into_parts-at.result.3 c.self.invariant.0 c.into_parts-at.ensures.kept same r.lane.0 r.given r.sound r.taken r.ended in
    let small = subst (λ (k : CursorView Alert Call OpenLane). k.lane.number < 8) same r.lane.0 in
    omega (arith, room_for_ending _ _ _ c.args.subscription by.0 c.self.invariant.0 by.1 small)

pub push-requires-2-clause-late : goal.push-requires-2-clause-late
push-requires-2-clause-late g c =
    let r = c.retire.ensures in
    let parts = c.into_parts-at.ensures.parts in
    let by = leaving_by _ _ _ c.into_parts-at.result.1 c.args.subscription c.into_parts-at.result.3 c.self.invariant.0 c.into_parts-at.ensures.kept parts.2 r.lane.0 r.given r.sound r.taken r.ended in
    let begun = by.1.its.given.begun in
    omega (arith, begun, by.1.at, parts.0, c.self.invariant.3.before)

pub returns-clause-taken : goal.returns-clause-taken
returns-clause-taken g c =
    let r = c.retire.ensures in
    let by = leaving_by _ _ _ c.into_parts-at.result.1 c.args.subscription c.into_parts-at.result.3 c.self.invariant.0 c.into_parts-at.ensures.kept c.into_parts-at.ensures.parts.2 r.lane.0 r.given r.sound r.taken r.ended in
    all_counted _ _ _ c.into_parts-at.result.1 c.args.subscription by.0 c.self.invariant.0 c.into_parts-at.ensures.kept by.1 c.into_parts-at.ensures.few

pub invariant_of-self : goal.invariant_of-self
invariant_of-self g c =
    let r = c.retire.ensures in
    let parts = c.into_parts-at.ensures.parts in
    let same = parts.2 in
    let s = c.args.subscription in
    let number = ap (λ (k : CursorView Alert Call OpenLane). k.lane.number) same in
    let by = leaving_by _ _ _ c.into_parts-at.result.1 s c.into_parts-at.result.3 c.self.invariant.0 c.into_parts-at.ensures.kept same r.lane.0 r.given r.sound r.taken r.ended in
    let small = subst (λ (n : ℕ). n < 8) number r.lane.0 in
    let ends = c.push-2.ensures in
    let ended : Ended = record { at = c.into_parts-at.result.0; taken = c.into_parts-at.result.1; closed = c.into_parts-at.result.2; cut = c.is_cut.result } in
    let lane : c.lane-lane.result ≡ s.cursor.lane.number = c.lane-lane.ensures.0 ∙ number in
    let journal : c.push.new.self.journal ≡ with_call c.self.inside.journal.journal (Left s.cursor.lane.number) =
    c.push.ensures.journal ∙ ap (λ l. with_call c.self.inside.journal.journal (Left l)) lane in (
      kept_left _ _ _ _ _ s by.0 ended c.self.invariant.0 by.1 small journal refl r.tail
          (subst (λ (n : ℕ). (Rattle.am_cast.specs.Seats.account_of c.retire.new.self n).stand ≡ Rattle.am_cast.specs.Rule.idle) number r.lane.1)
          (λ other ne. r.others other (λ e. ne (e ∙ number)))
          (ap (set c.self.inside.lanes c.lane-lane.result) c.replace.ensures.after ∙ ap (λ l. set c.self.inside.lanes l None) lane) refl ends.endings ends.early parts.0 (returns-clause-taken g c) parts.1
          c.push.ensures.gone.0 c.push.ensures.room (omega (arith, ap length ends.endings, length-append c.self.inside.endings.endings (ended ∷ []), ends.room)),
      c.self.invariant.1,
      c.self.invariant.2,
      still_endings_of _ _ _ _ c.self.invariant.3 ends.from.0 ends.from.1 (ap (λ (j : JournalView). j.before) journal) c.push.ensures.gone.0,
    )

pub returns-clause-due : goal.returns-clause-due
returns-clause-due g c =
    let r = c.retire.ensures in
    let same = c.into_parts-at.ensures.parts.2 in
    let s = c.args.subscription in
    let by = leaving_by _ _ _ c.into_parts-at.result.1 s c.into_parts-at.result.3 c.self.invariant.0 c.into_parts-at.ensures.kept same r.lane.0 r.given r.sound r.taken r.ended in
    let was_cut = subst (λ (k : CursorView Alert Call OpenLane). k.lane.cut ≡ true → (account_of c.self.inside.log k.lane.number).stand ≡ cut) same r.cut in
    let here = subst (λ (k : CursorView Alert Call OpenLane). Sound c.self.inside.log.tail (account_of c.self.inside.log k.lane.number) (left k.lane) k.lane.number) same r.sound in
    subst (λ (b : BookView). HasTakenDue b s) c.self.view_is (has_taken _ _ _ s by.0 c.self.invariant.0 by.1 (λ told. was_cut told.0) here.seen.places (λ severed. let most = here.lags severed in omega arith))
