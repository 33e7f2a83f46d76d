-- What holds of every state that steps lead to: this project's own.
use Rattle.std.specs.Prelude.{◌≡◌, ℕ, ◌-◌, ◌<◌, ◌≤◌, Bool, true, false, List, length, take, drop, ⊤}
use Rattle.std.specs.Prelude.{Some, slice_get}
use Rattle.std.specs.List.{All}
use Rattle.am_steps.specs.declared.lane_record.LaneRecord.{LaneRecord}
use Rattle.am_steps.specs.declared.cursor.Cursor.{Cursor}
use Rattle.am_steps.specs.declared.lane.Lane.{Lane}
use Rattle.am_steps.specs.declared.lane.Lane.TheVariants.{Idle, Admitted, Open, Left}
use Rattle.am_steps.specs.declared.poster.Poster.{Poster}
use Rattle.am_steps.specs.States.{Core, record_of}

module _ {X : Type 0} (log : List X) where
  module _ (closed : Bool) where
    -- a cursor has got the log from its start to where it is, and knows no more than there is. Of a
    -- cursor that was cut the writer knows whether a key is in its hand, and of which place
    pub record IsCursorSound (m : LaneRecord) (r : Cursor X) : Type 0 where
      pub got : r.got ≡ drop m.start (take r.passed log)
      pub start : m.start ≤ m.known
      pub known : m.known ≤ r.passed
      pub passed : r.passed ≤ r.seen
      pub seen : r.seen ≤ length log
      pub held : r.held ≡ true → r.passed < r.seen
      pub told : r.told ≡ true → (closed ≡ true) × (r.seen ≡ length log)
      pub told_cut : r.told_cut ≡ true → m.cut ≡ true
      pub in_hand : m.cut ≡ true → r.held ≡ true → (m.key_out ≡ true) × (m.known ≡ r.passed)

    -- an admitted lane starts within the log, and so does one that has left; an open one has a
    -- sound cursor
    abbrev pub IsLaneSound : Lane X → Type 0
    IsLaneSound Idle = ⊤
    IsLaneSound (Admitted m) = (m.known ≡ m.start) × (m.start ≤ length log)
    IsLaneSound (Open m r) = IsCursorSound m r
    IsLaneSound (Left m) = (m.start ≤ m.known) × (m.known ≤ length log)

  -- each own post is in the log at its place, and the poster knows of its place
  pub record IsPosterSound (v : Poster X) : Type 0 where
    pub places_known : v.places_known ≤ length log
    pub own : All (λ post. (slice_get log post.0 ≡ Some post.1) × (post.0 < v.places_known)) v.own

module _ {X : Type 0} where
  -- each lane and poster is sound, and a lane that isn't idle and wasn't cut lags by at most `places` batches
  pub record IsSound (c : Core X) : Type 0 where
    pub lane : (l : ℕ) → IsLaneSound c.log c.closed (c.lane l)
    pub behind : (l : ℕ) (m : LaneRecord) → record_of (c.lane l) ≡ Some m → m.cut ≡ false
        → length c.log - m.known ≤ c.places
    pub poster : (p : ℕ) → IsPosterSound c.log (c.poster p)
