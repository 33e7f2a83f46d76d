-- A subscription as it shows many alerts at once.
use Rattle.std.proofs.Common.{◌≡◌, ℕ, ◌+◌, ◌-◌, ◌%◌, ◌^◌, ◌≤◌, List, ◌++◌, length, take, drop, sym, ap, subst, ◌∙◌, arith, Bor}
use Rattle.std.proofs.lemmas.List.{drop-take, take-append-drop, take-take, take_min}
use Rattle.std.specs.declared.alloc.Global.{Global}
use Rattle.std.specs.declared.sync.Arc.{Arc}
use Rattle.am_alert.specs.declared.alert.Alert.{Alert}
use Rattle.am_store.specs.declared.shared_alerts.TheConstants.{BLOCK}
use Rattle.am_store.specs.Shared.{alerts_in, run_end}
use Rattle.am_cast.specs.Cursors.{GoesOn, items_at}
use Rattle.am_cast.specs.Lent.{MovesSlice}
use Rattle.am_cast.specs.declared.lends.Moved.TheVariants as moved
use Rattle.am_provider.specs.Subscriptions.{SubscriptionView}
use Rattle.am_provider.specs.declared.answers.Slice.TheVariants as slice
use Rattle.am_provider.specs.declared.subscription.Advance.{Advance}
use Rattle.am_provider.specs.declared.subscription.Advance.TheVariants as advance
use Rattle.am_provider.specs.Showings.{ShowsNone}
use Rattle.am_provider.specs.inside.Slices.{AdvancesSlice, IsSliceShown}
use Rattle.am_provider.specs.inside.Subscribed.{IsSubscription}
use Rattle.am_provider.proofs.Subscribing.{logged_more, still_untold}

-- a batch of the log, or the rest of one, was shown: it is a subscription again, and has advanced
pub batch_shown : (old new : SubscriptionView) (count next from : ℕ) → IsSubscription old count → old.shown ≡ length old.opening
    → new ≡ record old { cursor = new.cursor } → GoesOn old.cursor new.cursor → MovesSlice old.cursor new.cursor moved.One from
    → next ≡ (count + length (drop from (items_at new.cursor.lane.front new.cursor.lane.passed))) % 2 ^ 64
    → IsSubscription new next × AdvancesSlice old advance.Logged from new
batch_shown old new count next from was shown same on moves counts =
    let rest = moves.1 in
    let none : ShowsNone old old.closed_told new = record { shown = shown; rest = same; on = on } in
    let past : length old.opening ≤ old.shown = omega (arith, shown) in (
      logged_more old new count next (drop from (items_at new.cursor.lane.front new.cursor.lane.passed)) was past same on rest.was_open rest.taken counts,
      (none, still_untold old new count next was rest.was_open, moves),
    )

-- what lies together of the opening is lent
pub lends_opening : (s : SubscriptionView) (given : Advance) (from : ℕ) (alerts : Bor (List (Arc Alert Global))) (opening : List Alert) → given ≡ advance.Opened
    → alerts_in alerts.now ≡ take (BLOCK - from % BLOCK) (drop from opening) → opening ≡ s.opening → IsSliceShown s given from (slice.Stored alerts)
lends_opening s given from alerts opening is lent same =
    subst (λ (a : Advance). IsSliceShown s a from (slice.Stored alerts)) (sym is) (lent ∙ ap (λ list. take (BLOCK - from % BLOCK) (drop from list)) same)

-- what is shown up to the end of a run is what was shown before and the run
pub run_taken : (opening : List Alert) (shown : ℕ) → take (run_end shown (length opening)) opening ≡ take shown opening ++ take (BLOCK - shown % BLOCK) (drop shown opening)
run_taken opening shown =
    let run = BLOCK - shown % BLOCK in
    take_min (shown + run) opening
    ∙ (sym (take-append-drop shown (take (shown + run) opening))
    ∙ (ap (λ front. front ++ drop shown (take (shown + run) opening)) (take-take shown (shown + run) opening (omega arith)) ∙ ap (λ rest. take shown opening ++ rest) (drop-take shown run opening)))
