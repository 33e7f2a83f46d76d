-- How a cursor's fields agree with what its lane knows.
use Rattle.std.specs.Prelude.{◌≡◌, ℕ, ◌<◌, ◌≤◌, [], length, Option, Some, None, Bool, true, false}
use Rattle.atomic_table.specs.Seated.{TableId}
use Rattle.am_segment.specs.Segments.{KeyView}
use Rattle.am_cast.specs.declared.limits.TheConstants.{LANES, LONGEST_LOG, MAX_PLACES}
use Rattle.am_cast.specs.declared.batch_view.BatchView.{BatchView}
use Rattle.am_cast.specs.declared.views.LaneView.{LaneView}
use Rattle.am_cast.specs.Steps.{SeatState}
use Rattle.am_cast.specs.Keys.{key_of}
use Rattle.am_cast.specs.Seats.{lane_of, IsLane, HoldsKey}
use Rattle.am_cast.specs.Cursors.{items_at}

module _ {T P A : Type 0} where
  -- a place in hand, how many items it has, and how many of them were shown; or none
  abbrev pub HasHand : SeatState (BatchView T P) (KeyView T) A → LaneView (BatchView T P) A → ℕ
      → Option ℕ → Type 0
  HasHand m v shown (Some count) = (v.held ≡ true) × HoldsKey key_of m v
      × (count ≡ length (items_at v.front v.passed)) × (1 ≤ shown) × (shown ≤ count)
  HasHand m v shown None = (v.held ≡ false) × (m.1 ≡ []) × (shown ≡ 0)

  -- a cursor's fields agree with its seat
  pub record CursorOk (table seat_table : TableId) (m : SeatState (BatchView T P) (KeyView T) A)
      (number places passed seen shown : ℕ) (closed cut : Bool) (hand : Option ℕ) : Type 0 where
    pub same : seat_table ≡ table
    pub lane : IsLane m (lane_of m.0)
    pub alone : (m.0.writer ≡ None) × (m.0.own ≡ [])
    pub here : (lane_of m.0).here ≡ true
    pub begun : (lane_of m.0).begun ≡ true
    pub number_is : (lane_of m.0).number ≡ number
    pub small : number < LANES
    pub places_is : (lane_of m.0).places ≡ places
    pub some_places : (0 < places) × (places ≤ MAX_PLACES)
    pub passed_is : (lane_of m.0).passed ≡ passed
    pub low : (lane_of m.0).start ≤ passed
    pub mid : passed ≤ seen
    pub seen_is : length (lane_of m.0).front ≡ seen
    pub bound : seen ≤ LONGEST_LOG
    pub told_is : (lane_of m.0).told ≡ closed
    pub cut_is : (lane_of m.0).cut ≡ cut
    pub hand_is : HasHand m (lane_of m.0) shown hand
    pub below : (lane_of m.0).held ≡ true → passed < seen
    pub uncut : (lane_of m.0).held ≡ true → (lane_of m.0).cut ≡ false
