-- The writer's state as contracts see it, and how its fields agree with its seat.
use Rattle.std.specs.Prelude.{◌≡◌, ◌≢◌, ℕ, ◌<◌, ◌≤◌, List, [], length, slice_index_or, None, Bool}
use Rattle.atomic_table.specs.Seated.{TableId}
use Rattle.am_segment.specs.Segments.{KeyView}
use Rattle.am_cast.specs.declared.limits.TheConstants.{LANES, LONGEST_LOG, MAX_PLACES}
use Rattle.am_cast.specs.declared.batch_view.BatchView.{BatchView}
use Rattle.am_cast.specs.declared.views.Account.{Account}
use Rattle.am_cast.specs.declared.views.WriterView.{WriterView}
use Rattle.am_cast.specs.declared.writer.lane_account.LaneAccount.{LaneAccount}
use Rattle.am_cast.specs.Changes.{with_account}
use Rattle.am_cast.specs.Steps.{SeatState}
use Rattle.am_cast.specs.Seats.{writer_of, account_of, IsWriter}
use Rattle.am_cast.specs.inside.KeyRows.{BucketView, bucket_of}
use Rattle.am_cast.specs.inside.LaneAccounts.{IsKeptAs, no_lane}

-- what the writer's seat knows, and the rows of keys that came home
pub record WriterStateView (T P A : Type 0) : Type 0 where
  pub known : WriterView (BatchView T P) (KeyView T) A
  pub rows : List (BucketView T)

module _ {T P A : Type 0} where
  -- one account has changed
  abbrev pub OneAccount : WriterStateView T P A → WriterStateView T P A → ℕ → Account (KeyView T) A → Type 0
  OneAccount q q' l b' = q' ≡ record q { known = with_account l b' q.known }

  -- one account is now b', and besides it rows alone have changed
  abbrev pub OnlyAccount : WriterStateView T P A → WriterStateView T P A → ℕ → Account (KeyView T) A → Type 0
  OnlyAccount q q' l b' = (q'.known.tail ≡ q.known.tail)
      × (length q'.known.accounts ≡ length q.known.accounts) × (account_of q'.known l ≡ b')
      × ((m : ℕ) → m ≢ l → account_of q'.known m ≡ account_of q.known m)

-- there is memory for as many rows as before
abbrev pub KeepsRoom : {T : Type 0} → List (BucketView T) → List (BucketView T) → Type 0
KeepsRoom rows rows' = (p : ℕ) → (bucket_of rows p).room ≤ (bucket_of rows' p).room

module _ {B K A : Type 0} where
  -- the writer's fields agree with its seat
  pub record WriterStateOk (table seat_table : TableId) (m : SeatState B K A)
      (places count : ℕ) (closed : Bool) (lanes : List LaneAccount) : Type 0 where
    pub same : seat_table ≡ table
    pub writer : IsWriter m (writer_of m.0)
    pub alone : m.0.lane ≡ None
    pub no_own : m.0.own ≡ []
    pub all : length (writer_of m.0).accounts ≡ LANES
    pub places_is : (writer_of m.0).tail.places ≡ places
    pub some_places : (0 < places) × (places ≤ MAX_PLACES)
    pub count_is : length (writer_of m.0).tail.log ≡ count
    pub bound : count ≤ LONGEST_LOG
    pub closed_is : (writer_of m.0).tail.closed ≡ closed
    pub wide : length lanes ≡ LANES
    pub each : (l : ℕ) → l < LANES → IsKeptAs (account_of (writer_of m.0) l) (slice_index_or lanes l no_lane)
