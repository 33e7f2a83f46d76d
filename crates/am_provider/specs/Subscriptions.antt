-- What contracts see of a subscription.
use Rattle.std.specs.Prelude.{ℕ, Bool, List, ◌++◌, take}
use Rattle.am_alert.specs.declared.alert.Alert.{Alert}
use Rattle.am_store.specs.declared.call.Call.{Call}
use Rattle.am_store.specs.declared.lanes.OpenLane.{OpenLane}
use Rattle.am_cast.specs.Cursors.{CursorView}
use Rattle.am_cast.specs.Cursors as cast

-- a subscription: how many calls there were before it, what was stored then, how many of those alerts
-- it has shown, its cursor in the log since, and whether it answered `Closed`
pub record SubscriptionView : Type 0 where
  pub at : ℕ
  pub opening : List Alert
  pub shown : ℕ
  pub cursor : CursorView Alert Call OpenLane
  pub closed_told : Bool

-- what it has taken: what it has shown of the opening, and then of the log
abbrev pub taken : SubscriptionView → List Alert
taken subscription = take subscription.shown subscription.opening ++ cast.shown_items subscription.cursor
