-- How a pass agrees with its seat.
use Rattle.std.specs.Prelude.{◌≡◌, [], None}
use Rattle.atomic_table.specs.Seated.{TableId}
use Rattle.am_segment.specs.Segments.{KeyView}
use Rattle.am_cast.specs.declared.batch_view.BatchView.{BatchView}
use Rattle.am_cast.specs.Steps.{SeatState}

module _ {T P A : Type 0} where
  -- a pass has a seat of its log, with no slot in hand, that is neither the writer's nor a lane's
  pub record PassOk (table seat_table : TableId) (m : SeatState (BatchView T P) (KeyView T) A) : Type 0 where
    pub same : seat_table ≡ table
    pub bare : m.1 ≡ []
    pub alone : (m.0.writer ≡ None) × (m.0.lane ≡ None)
