use Rattle.std.proofs.Common.{◌≡◌, ◌∙◌, length, refl, sym, ap}
use Rattle.am_provider.specs.Subscriptions.{SubscriptionView}
use Rattle.am_provider.proofs.Subscribing.{held_after, noted}
use Rattle.am_provider.proofs.subscription.Subscription.advance_past.Goals as goal

pub invariant_of-self : goal.invariant_of-self
invariant_of-self g c =
    let no = c.show_opening.ensures.no c.if-show_opening.false in
    let old : SubscriptionView = record { at = c.self.inside.at; opening = c.self.inside.opening.value; shown = c.self.inside.shown; cursor = c.self.inside.cursor; closed_told = c.self.inside.closed_told } in
    let new : SubscriptionView = record old { cursor = c.advance_past-moved.new.self; closed_told = c.note.new.closed_told } in
    let same : old ≡ c.args.self.now = c.self.view_is ∙ no.1 in
    let all : old.shown ≡ length old.opening = ap (λ (s : SubscriptionView). s.shown) same ∙ (no.0 ∙ ap (λ (s : SubscriptionView). length s.opening) (sym same)) in
    ((noted old new c.self.inside.count c.note.new.count c.advance_past-moved.result c.note.result c.self.invariant.0 all refl c.advance_past-moved.ensures.on c.advance_past-moved.ensures.moves c.note.ensures).0, held_after old.opening old.cursor new.cursor c.self.inside.held c.let_go_after.new.held c.self.inside.stored c.self.invariant.1 c.advance_past-moved.result c.advance_past-moved.ensures.moves c.let_go_after.ensures)
