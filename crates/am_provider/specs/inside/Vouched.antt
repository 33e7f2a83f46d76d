-- What the log's writer says of a cursor that goes on.
use Rattle.std.specs.Prelude.{◌≡◌, ◌≢◌, ◌<◌, true, drop}
use mathlib.Core.List.{IsPrefix}
use Rattle.am_alert.specs.declared.alert.Alert.{Alert}
use Rattle.am_cast.specs.Cursors.{CursorView, shown_items, HasEnded}
use Rattle.am_cast.specs.Keys.{all_items}
use Rattle.am_cast.specs.Rule.{Sound, cut, idle}
use Rattle.am_cast.specs.Seats.{account_of}
use Rattle.am_store.specs.declared.call.Call.{Call}
use Rattle.am_store.specs.declared.lanes.OpenLane.{OpenLane}
use Rattle.am_provider.specs.Batches.{LogView}

-- its lane is given out, and is as the writer knows it; what it has shown begins what the log has for it, and
-- is all of that if it has ended
pub record IsVouched (log : LogView) (cursor : CursorView Alert Call OpenLane) : Type 0 where
  pub lane : cursor.lane.number < 8
  pub given : (account_of log cursor.lane.number).stand ≢ idle
  pub cut_is : cursor.lane.cut ≡ true → (account_of log cursor.lane.number).stand ≡ cut
  pub sound : Sound log.tail (account_of log cursor.lane.number) cursor.lane cursor.lane.number
  pub taken : IsPrefix (shown_items cursor) (all_items (drop cursor.lane.start log.tail.log))
  pub ended : HasEnded cursor → shown_items cursor ≡ all_items (drop cursor.lane.start log.tail.log)
