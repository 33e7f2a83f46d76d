-- What the raw steps ask of a seat.
use Rattle.std.specs.Prelude.{◌≡◌, ◌≢◌, ℕ, ◌<◌, List, [], ◌∷◌, Option, Some, None, slice_index_or}
use Rattle.std.specs.Prelude.{Bool, true, false}
use mathlib.Core.Option.{some}
use lib.ListN.{get_elem?}
use Rattle.atomic_table.specs.Seated.{TableId}
use Rattle.am_cast.specs.declared.limits.TheConstants.{WORDS}
use Rattle.am_cast.specs.declared.views.Account.{Account}
use Rattle.am_cast.specs.declared.views.WriterView.{WriterView}
use Rattle.am_cast.specs.declared.views.LaneView.{LaneView}
use Rattle.am_cast.specs.declared.views.View.{View}
use Rattle.am_cast.specs.Rule.{live, slot, first_lane, first_writer, first_account}
use Rattle.am_cast.specs.Changes.{with_lane, holding, cut_off}
use Rattle.am_cast.specs.Steps.{SeatState}

-- the value of an option, or else x
abbrev pub some_or : {X : Type 0} → X → Option X → X
some_or x (Some y) = y
some_or x None = x

-- the lane that this view is of
abbrev pub lane_of : {B K A : Type 0} → View B K A → LaneView B A
lane_of w = some_or (first_lane 0 0) w.lane

-- the writer's part of this view
abbrev pub writer_of : {B K A : Type 0} → View B K A → WriterView B K A
writer_of w = some_or (first_writer 0) w.writer

-- the table has all its words
abbrev pub IsSized : TableId → Type 0
IsSized z = z.words ≡ WORDS

-- the seat is the lane v's
abbrev pub IsLane : {B K A : Type 0} → SeatState B K A → LaneView B A → Type 0
IsLane m v = m.0.lane ≡ Some v

-- the key of the batch at this place
abbrev pub IsKeyAt : {B K : Type 0} → (B → ℕ → K) → List B → ℕ → ℕ → K → Type 0
IsKeyAt {B = B} key front i l k = (x : B) × (get_elem? front i ≡ some x) × (k ≡ key x l)

module _ {B K A : Type 0} (key : B → ℕ → K) where
  -- the slot of the place v.passed is in hand, with the lane's key of the batch there
  abbrev pub HoldsKey : SeatState B K A → LaneView B A → Type 0
  HoldsKey m v = (x : B) × (get_elem? v.front v.passed ≡ some x)
      × (m.1 ≡ (slot v.places v.number v.passed, Some (key x v.number)) ∷ [])

  -- that slot is in hand, or none is
  abbrev pub HoldsIf : Bool → SeatState B K A → LaneView B A → Type 0
  HoldsIf true m v = HoldsKey m v
  HoldsIf false m v = m.1 ≡ []

  -- an answer of Take: whether the key came into the hand, or the lane was cut
  abbrev pub Took : SeatState B K A → LaneView B A → SeatState B K A → Bool → Type 0
  Took m v m' true = (m'.0 ≡ with_lane (holding v) m.0) × HoldsKey m' v
  Took m v m' false = (m'.0 ≡ with_lane (cut_off v) m.0) × (m'.1 ≡ m.1)

-- what the writer knows of the lane l
abbrev pub account_of : {B K A : Type 0} → WriterView B K A → ℕ → Account K A
account_of q l = slice_index_or q.accounts l first_account

-- the writer's seat, with no slot in hand
abbrev pub IsWriter : {B K A : Type 0} → SeatState B K A → WriterView B K A → Type 0
IsWriter m q = (m.0.writer ≡ Some q) × (m.1 ≡ [])

-- the place that the writer may empty next
abbrev pub IsPast : {K A : Type 0} → Account K A → Type 0
IsPast b = (b.stand ≡ live → b.cleared < b.known) × (b.stand ≢ live → b.cleared < b.stop)
