use Rattle.std.proofs.Common.{◌≡◌, ◌∙◌, ◌+◌, ◌%◌, ◌^◌, List, length, drop, refl, sym, ap, subst}
use Rattle.am_alert.specs.declared.alert.Alert.{Alert}
use Rattle.am_store.specs.declared.call.Call.{Call}
use Rattle.am_store.specs.declared.lanes.OpenLane.{OpenLane}
use Rattle.am_cast.specs.Cursors.{CursorView, GoesOn, items_at}
use Rattle.am_cast.specs.Lent.{MovesSlice}
use Rattle.am_cast.specs.declared.lends.Moved.{Moved}
use Rattle.am_cast.specs.declared.lends.Moved.TheVariants as moved
use Rattle.am_provider.specs.Subscriptions.{SubscriptionView}
use Rattle.am_provider.proofs.Slicing.{batch_shown}
use Rattle.am_provider.proofs.Subscribing.{may_go}
use Rattle.am_provider.proofs.subscription.Subscription.advance_slice.Goals as goal

abbrev Cursor : Type 0
Cursor = CursorView Alert Call OpenLane

pub invariant_of-self : goal.invariant_of-self
invariant_of-self g c =
    let no = c.in_default.ensures.none in
    let from = c.advance_slice.result.1 in
    let old : SubscriptionView = record { at = c.self.inside.at; opening = c.self.inside.opening.value; shown = c.self.inside.shown; cursor = c.self.inside.cursor; closed_told = c.self.inside.closed_told } in
    let new : SubscriptionView = record old { cursor = c.in_hand_from.follows.lender-at-none } in
    let same : old ≡ c.args.self.now = c.self.view_is ∙ no.1 in
    let all : old.shown ≡ length old.opening = ap (λ (s : SubscriptionView). s.shown) same ∙ (no.0 ∙ ap (λ (s : SubscriptionView). length s.opening) (sym same)) in
    let lent : Cursor = c.in_hand_from.follows.lender-at-none in
    let is : c.advance_slice.new.self ≡ lent = sym c.in_hand_from.follows.holds-at-none in
    let on = subst (λ (d : Cursor). GoesOn old.cursor d) is c.advance_slice.ensures.on in
    let moves = subst (λ (d : Cursor). MovesSlice old.cursor d moved.One from) is (subst (λ (m : Moved). MovesSlice old.cursor c.advance_slice.new.self m from) c.in-One-default.is-0 c.advance_slice.ensures.moves) in
    let items = subst (λ (d : Cursor). c.in_hand_from.result.now ≡ drop from (items_at d.lane.front d.lane.passed)) is c.in_hand_from.ensures.items in (
      (batch_shown old new c.self.inside.count _ from c.self.invariant.0 all refl on moves (ap (λ (shown : List _). (c.self.inside.count + length shown) % 2 ^ 64) items)).0,
      may_go old.opening old.cursor new.cursor c.self.inside.held c.let_go_after.new.held c.self.inside.stored c.self.invariant.1 _ moves.1.taken moves.1.some,
    )
