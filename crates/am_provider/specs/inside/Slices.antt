-- How a subscription moves on before many alerts are lent.
use Rattle.std.specs.Prelude.{◌≡◌, ℕ, ◌-◌, ◌%◌, ◌<◌, ◌≤◌, true, false, [], drop, length, take, ⊤}
use Rattle.am_store.specs.declared.shared_alerts.TheConstants.{BLOCK}
use Rattle.am_store.specs.Shared.{alerts_in, run_end}
use Rattle.am_cast.specs.Cursors.{items_at, shown_items}
use Rattle.am_cast.specs.Lent.{MovesSlice}
use Rattle.am_cast.specs.declared.lends.Moved.TheVariants as moved
use Rattle.am_provider.specs.declared.answers.Slice.{Slice}
use Rattle.am_provider.specs.declared.answers.Slice.TheVariants as slice
use Rattle.am_provider.specs.declared.subscription.Advance.{Advance}
use Rattle.am_provider.specs.declared.subscription.Advance.TheVariants as advance
use Rattle.am_provider.specs.Subscriptions.{SubscriptionView}
use Rattle.am_provider.specs.Showings.{ShowsNone}
use Rattle.am_provider.specs.inside.Advances.{Advances}
use Rattle.am_provider.specs.inside.Subscribed.{IsFresh}

-- what lies together of the opening is shown, from the index on up to which it was shown
pub record ShowsOpening (old : SubscriptionView) (from : ℕ) (new : SubscriptionView) : Type 0 where
  pub is_next : from ≡ old.shown
  pub some : old.shown < length old.opening
  pub fresh : IsFresh old.cursor
  pub untold : old.closed_told ≡ false
  pub run : new ≡ record old { shown = run_end old.shown (length old.opening) }

-- all that lies together, from an index on, of the opening or of a batch of the log; or why there is none
abbrev pub AdvancesSlice : SubscriptionView → Advance → ℕ → SubscriptionView → Type 0
AdvancesSlice old advance.Opened from new = ShowsOpening old from new
AdvancesSlice old advance.Logged from new =
    ShowsNone old old.closed_told new × (old.closed_told ≡ false)
    × MovesSlice old.cursor new.cursor moved.One from
AdvancesSlice old other from new = Advances old other new

-- what was advanced can be lent
abbrev pub CanShowFrom : Advance → ℕ → SubscriptionView → Type 0
CanShowFrom advance.Opened from s = (from ≤ length s.opening) × (shown_items s.cursor ≡ [])
CanShowFrom advance.Logged from s =
    (s.cursor.lane.held ≡ true) × (from ≤ length (items_at s.cursor.lane.front s.cursor.lane.passed))
CanShowFrom other from s = ⊤

-- an answer lends the alerts that were advanced to, or says why there are none
abbrev pub IsSliceShown : SubscriptionView → Advance → ℕ → Slice → Type 0
IsSliceShown s advance.Opened from (slice.Stored alerts) =
    alerts_in alerts.now ≡ take (BLOCK - from % BLOCK) (drop from s.opening)
IsSliceShown s advance.Logged from (slice.Posted items) =
    items.now ≡ drop from (items_at s.cursor.lane.front s.cursor.lane.passed)
IsSliceShown s advance.Pending from answer = answer ≡ slice.Pending
IsSliceShown s advance.Closed from answer = answer ≡ slice.Closed
IsSliceShown s advance.Cut from answer = answer ≡ slice.Cut
IsSliceShown s other from answer = ⊥
