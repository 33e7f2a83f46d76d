-- A lane that is given out.
use Rattle.std.specs.Prelude.{◌≡◌, ◌≢◌, ℕ, ◌<◌, length, Some}
use Rattle.am_segment.specs.Segments.{KeyView}
use Rattle.am_cast.specs.declared.limits.TheConstants.{LANES}
use Rattle.am_cast.specs.declared.batch_view.BatchView.{BatchView}
use Rattle.am_cast.specs.declared.views.WriterView.{WriterView}
use Rattle.am_cast.specs.Rule.{idle, live}
use Rattle.am_cast.specs.Changes.{new_lane, opened}
use Rattle.am_cast.specs.Seats.{account_of}
use Rattle.am_cast.specs.Cursors.{CursorView, as_cursor}

module _ {T P A : Type 0} where
  -- the cursor of the lowest idle lane, with this note. It has shown nothing, and starts at the log's end
  abbrev pub IsAdmitted : A → WriterView (BatchView T P) (KeyView T) A → CursorView T P A → Type 0
  IsAdmitted note q c = (c.lane.number < LANES) × ((account_of q c.lane.number).stand ≡ idle)
      × ((m : ℕ) → m < c.lane.number → (account_of q m).stand ≢ idle)
      × (c ≡ as_cursor (opened (new_lane (Some note) c.lane.number q.tail (account_of q c.lane.number))))

  -- what the writer knows of that lane then
  abbrev pub IsGivenOut : A → WriterView (BatchView T P) (KeyView T) A
      → WriterView (BatchView T P) (KeyView T) A → CursorView T P A → Type 0
  IsGivenOut note q q' c = let b = account_of q' c.lane.number in (b.stand ≡ live) × (b.turn ≡ c.lane.turn)
      × (b.note ≡ Some note) × (b.start ≡ length q.tail.log) × (b.known ≡ length q.tail.log)
