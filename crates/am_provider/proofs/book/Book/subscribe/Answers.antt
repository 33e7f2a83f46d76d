use Rattle.std.proofs.Common.{◌≡◌, ◌+◌, ◌≤◌, List, Some, length, set, refl, sym, ap, subst, ◌∙◌, rules, arith}
use Rattle.am_alert.specs.declared.alert.Alert.{Alert}
use Rattle.am_store.specs.declared.call.Call.{Call}
use Rattle.am_store.specs.declared.call.Call.TheVariants.{Subscribed}
use Rattle.am_store.specs.declared.lanes.OpenLane.{OpenLane}
use Rattle.am_store.specs.AlertMaps.{stored_in}
use Rattle.am_store.specs.Journal.{JournalView, MayFollow, with_call, call_count}
use Rattle.am_cast.specs.Cursors.{CursorView}
use Rattle.am_cast.specs.Cursors as cast
use Rattle.am_provider.specs.BookView.{BookView}
use Rattle.am_provider.specs.Subscriptions.{SubscriptionView}
use Rattle.am_provider.proofs.Calls.{kept_subscribed, lowest_free, may_subscribe, fresh_items}
use Rattle.am_provider.proofs.Endings.{still_endings_of}
use Rattle.am_provider.proofs.book.Book.subscribe.Given.{Over}
use Rattle.am_provider.proofs.book.Book.subscribe.Goals as goal

grown : (g : Over) (c : goal.After-begin g) → c.push.new.self.journal ≡ with_call c.self.inside.journal.journal (Subscribed c.in-Ok.cursor.lane.number)
grown g c =
    c.push.ensures.journal ∙ (ap (λ (j : JournalView). with_call j (Subscribed c.lane-lane.result)) c.in_ok-reserve.ensures.same.0
    ∙ ap (λ lane. with_call c.self.inside.journal.journal (Subscribed lane)) c.lane-lane.ensures.0)

pub begin-requires : goal.begin-requires
begin-requires g c =
    let is = c.in-Ok.ensures.ok.3 in
    let same : c.in_ok-kept.kept ≡ c.in_ok-opening.opening = search rules in (
      record {
        taken = ap cast.shown_items is ∙ fresh_items c.self.inside.log.tail.log;
        told = ap (λ (x : CursorView Alert Call OpenLane). x.lane.told) is;
        cut = ap (λ (x : CursorView Alert Call OpenLane). x.lane.cut) is;
      },
      ap (λ (x : CursorView Alert Call OpenLane). x.lane.note) is
          ∙ (ap Some c.of.ensures ∙ ap (λ (o : List Alert). Some (record { at = c.call_count-at.result; opening = o })) same),
    )

pub invariant_of-self-2 : goal.invariant_of-self-2
invariant_of-self-2 g c =
    let kept = c.self.invariant.0 in
    let k = c.in-Ok.ensures.ok in
    let own = c.in-Ok.ensures.lane in
    let one : OpenLane = record { at = c.call_count-at.result; opening = c.in_ok-kept.kept } in
    let opening : c.in_ok-kept.kept ≡ stored_in c.self.inside.stored = search rules in
    let at : c.call_count-at.result ≡ call_count c.self.inside.journal.journal = c.call_count-at.ensures ∙ ap (λ (j : JournalView). call_count j) c.in_ok-reserve.ensures.same.0 in
    let room : 9 ≤ c.push.new.self.room = omega (arith, c.in_ok-reserve.ensures.room, c.push.ensures.room) in
    let gone : c.push.new.self.gone ≡ c.self.inside.journal.gone = c.push.ensures.gone.0 ∙ c.in_ok-reserve.ensures.same.1 in
    let ends = c.reserve-2.ensures in
    let roomy : length c.reserve-2.new.self.endings + 8 ≤ length c.reserve-2.new.self.endings + c.reserve-2.new.self.room = omega (arith, c.in_ok-reserve-2.ensures.room) in (
      kept_subscribed _ _ _ _ _ c.in-Ok.cursor.lane.number one kept c.in-Ok.ensures.open (lowest_free _ _ _ c.in-Ok.cursor.lane.number kept k.0 k.1 k.2) (grown g c) at opening
          (ap stored_in c.share_all.ensures.same) c.in-Ok.ensures.tail own.0 (own.2 ∙ ap Some c.of.ensures) own.3 own.4 c.in-Ok.ensures.others (ap (λ l. set c.self.inside.lanes l (Some one)) c.lane-lane.ensures.0) refl ends.same.0 ends.same.1 gone room roomy,
      c.self.invariant.1,
      c.self.invariant.2,
      still_endings_of _ _ _ _ c.self.invariant.3 ends.from.0 ends.from.1 (ap (λ (j : JournalView). j.before) (grown g c)) gone,
    )

pub push-requires-clause-may : goal.push-requires-clause-may
push-requires-clause-may g c =
    let number = c.in-Ok.cursor.lane.number in
    let k = c.in-Ok.ensures.ok in
    subst (λ (j : JournalView). MayFollow j (Subscribed c.lane-lane.result)) (sym c.in_ok-reserve.ensures.same.0)
    (subst (λ lane. MayFollow c.self.inside.journal.journal (Subscribed lane)) (sym c.lane-lane.ensures.0)
    (may_subscribe _ _ _ number c.self.invariant.0 c.in-Ok.ensures.open (lowest_free _ _ _ number c.self.invariant.0 k.0 k.1 k.2)))

pub returns-clause-journal : goal.returns-clause-journal
returns-clause-journal g c =
    grown g c ∙ (ap (λ (b : BookView). with_call b.journal (Subscribed c.in-Ok.cursor.lane.number)) c.self.view_is
    ∙ ap (λ (s : SubscriptionView). with_call c.args.self.now.journal (Subscribed s.cursor.lane.number)) (sym c.begin.ensures))
