-- The seats of a new log.
use Rattle.std.specs.Prelude.{◌≡◌, ℕ, ◌<◌, ◌≤◌, [], List, length, None}
use Rattle.atomic_table.specs.Seated.{TableId}
use Rattle.am_segment.specs.Segments.{KeyView}
use Rattle.am_cast.specs.declared.limits.TheConstants.{MAX_PLACES, WORDS}
use Rattle.am_cast.specs.declared.batch_view.BatchView.{BatchView}
use Rattle.am_cast.specs.Rule.{first_view}
use Rattle.am_cast.specs.Steps.{SeatState}
use Rattle.am_cast.specs.inside.KeyRows.{BucketView, row_at}

-- a table and a seat that nobody has used, and rows without a key
pub record PartsOk {T P A : Type 0} (table seat_table : TableId) (m : SeatState (BatchView T P) (KeyView T) A)
    (rows : List (BucketView T)) (places : ℕ) : Type 0 where
  pub sized : table.words ≡ WORDS
  pub some_places : (0 < places) × (places ≤ MAX_PLACES)
  pub same : seat_table ≡ table
  pub first : m.0 ≡ first_view places
  pub bare : m.1 ≡ []
  pub as_many : length rows ≡ places
  pub no_keys : (p : ℕ) → row_at rows p ≡ None
