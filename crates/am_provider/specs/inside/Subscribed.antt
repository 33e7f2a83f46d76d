-- What always holds of a subscription.
use Rattle.std.specs.Prelude.{◌≡◌, ℕ, ◌≤◌, ◌<◌, ◌%◌, ◌^◌, true, false, List, [], Option, Some, length}
use Rattle.am_alert.specs.declared.alert.Alert.{Alert}
use Rattle.am_store.specs.declared.call.Call.{Call}
use Rattle.am_store.specs.declared.lanes.OpenLane.{OpenLane}
use Rattle.am_cast.specs.Cursors.{CursorView, HasEnded}
use Rattle.am_cast.specs.Cursors as cast
use Rattle.am_provider.specs.Subscriptions.{SubscriptionView, taken}

-- a cursor that has shown nothing and knows of no end and no cut
pub record IsFresh (cursor : CursorView Alert Call OpenLane) : Type 0 where
  pub taken : cast.shown_items cursor ≡ []
  pub told : cursor.lane.told ≡ false
  pub cut : cursor.lane.cut ≡ false

-- the log is read after the opening; the lane's note says when it was subscribed and what was stored
-- then; `Closed` is answered only once all was shown; the count is of what was taken
pub record IsSubscription (s : SubscriptionView) (count : ℕ) : Type 0 where
  pub within : s.shown ≤ length s.opening
  pub first : s.shown < length s.opening → IsFresh s.cursor
  pub note : s.cursor.lane.note ≡ Some (record { at = s.at; opening = s.opening })
  pub told : s.closed_told ≡ true → HasEnded s.cursor × (s.shown ≡ length s.opening)
  pub counted : count ≡ length (taken s) % 2 ^ 64

-- memory has the opening, of that many alerts, at least until the cursor has shown one of the log
pub record IsHeld (opening : List Alert) (cursor : CursorView Alert Call OpenLane)
    (held : Option (List Alert)) (stored : ℕ) : Type 0 where
  pub there : cast.shown_items cursor ≡ [] → held ≡ Some opening
  pub counted : stored ≡ length opening
  pub few : stored < 2 ^ 63
