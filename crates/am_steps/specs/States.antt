-- The core's state: the log of batches, the lanes and the posters. All of it is this project's own.
use Rattle.std.specs.Prelude.{ℕ, Bool, false, List, [], length, Option, Some, None}
use Rattle.std.specs.Prelude.{slice_index_or, if◌then◌else◌, nat_lt}
use Rattle.am_steps.specs.declared.lane_record.LaneRecord.{LaneRecord}
use Rattle.am_steps.specs.declared.cursor.Cursor.{Cursor}
use Rattle.am_steps.specs.declared.lane.Lane.{Lane}
use Rattle.am_steps.specs.declared.lane.Lane.TheVariants.{Idle, Admitted, Open, Left}
use Rattle.am_steps.specs.declared.poster.Poster.{Poster}

-- the state: by how many batches a lane may lag, the names of the batches in order, whether no more will
-- come, and the lanes and posters, by their numbers
pub record Core (X : Type 0) : Type 0 where
  pub places : ℕ
  pub log : List X
  pub closed : Bool
  pub lanes : ℕ
  pub lane : ℕ → Lane X
  pub posters : ℕ
  pub poster : ℕ → Poster X

-- what contracts see of a `State`: the same, with its lanes and posters as lists
pub record StateView (X : Type 0) : Type 0 where
  pub places : ℕ
  pub log : List X
  pub closed : Bool
  pub lanes : List (Lane X)
  pub posters : List (Poster X)

module _ {X : Type 0} where
  -- a poster that knows of no place
  abbrev pub unaware_poster : Poster X
  unaware_poster = record { places_known = 0; own = [] }

  -- the state that a `State` is in
  abbrev pub core_of : StateView X → Core X
  core_of s = record {
    places = s.places;
    log = s.log;
    closed = s.closed;
    lanes = length s.lanes;
    lane = λ l. slice_index_or s.lanes l Idle;
    posters = length s.posters;
    poster = λ p. slice_index_or s.posters p unaware_poster;
  }

-- what the writer records of a lane that is admitted at a place
abbrev pub new_record : ℕ → LaneRecord
new_record at = record { start = at; known = at; key_out = false; cut = false }

module _ {X : Type 0} where
  -- a cursor that begins at a place
  abbrev pub new_cursor : ℕ → Cursor X
  new_cursor at = record {
    passed = at;
    held = false;
    seen = at;
    told = false;
    told_cut = false;
    got = [];
  }

  -- a lane that is open at the log's beginning
  abbrev pub new_open_lane : Lane X
  new_open_lane = Open (new_record 0) (new_cursor 0)

  -- the state at first: an empty log, idle lanes, and posters that know of no place
  abbrev pub first_state : ℕ → ℕ → ℕ → Core X
  first_state places lanes posters = record {
    places = places;
    log = [];
    closed = false;
    lanes = lanes;
    lane = λ _. Idle;
    posters = posters;
    poster = λ _. unaware_poster;
  }

  -- the state at first, but each lane is open
  abbrev pub first_state_open : ℕ → ℕ → ℕ → Core X
  first_state_open places lanes posters = record {
    places = places;
    log = [];
    closed = false;
    lanes = lanes;
    lane = λ l. if nat_lt l lanes then new_open_lane else Idle;
    posters = posters;
    poster = λ _. unaware_poster;
  }

-- what a lane's word shows, apart from whether it was cut: how many places the cursor has passed, and
-- whether the key of the next one is in its hand
pub record LaneWord : Type 0 where
  pub passed : ℕ
  pub held : Bool

module _ {X : Type 0} where
  -- what the writer records of the lane, unless it is idle
  abbrev pub record_of : Lane X → Option LaneRecord
  record_of Idle = None
  record_of (Admitted m) = Some m
  record_of (Open m r) = Some m
  record_of (Left m) = Some m

  -- the lane with another record, unless it is idle
  abbrev pub with_record : LaneRecord → Lane X → Lane X
  with_record n Idle = Idle
  with_record n (Admitted m) = Admitted n
  with_record n (Open m r) = Open n r
  with_record n (Left m) = Left n

  -- the lane's word, if it is admitted or open
  abbrev pub word_of : Lane X → Option LaneWord
  word_of Idle = None
  word_of (Admitted m) = Some (record { passed = m.start; held = false })
  word_of (Open m r) = Some (record { passed = r.passed; held = r.held })
  word_of (Left m) = None
