-- The batches of the log.
use Rattle.std.specs.Prelude.{List, map}
use Rattle.am_alert.specs.declared.alert.Alert.{Alert}
use Rattle.am_cast.specs.declared.batch_view.BatchView.{BatchView}
use Rattle.am_cast.specs.declared.views.WriterView.{WriterView}
use Rattle.am_cast.specs.Keys.{batch_items}
use Rattle.am_segment.specs.Segments.{KeyView}
use Rattle.am_store.specs.declared.call.Call.{Call}
use Rattle.am_store.specs.declared.lanes.OpenLane.{OpenLane}

-- a batch: the post that sent it out, and the alerts that became of it
abbrev pub Batch : Type 0
Batch = BatchView Alert Call

-- what the log's writer knows
abbrev pub LogView : Type 0
LogView = WriterView Batch (KeyView Alert) OpenLane

-- the alerts of each batch
abbrev pub sent_in : List Batch → List (List Alert)
sent_in log = map (λ (batch : Batch). batch_items batch) log

-- the post that sent out each batch
abbrev pub posts_in : List Batch → List Call
posts_in log = map (λ (batch : Batch). batch.post) log
