-- What each atomic step does to a state: a relation with one constructor for each row of this
-- table, and nothing else. It is this project's own. `length` is the log's.
--
--   event            step                          possible where            change
--   Publish name     writer stores the tail word   not closed, and           log grows by the name
--                                                  length - known < places
--                                                  for each lane that is
--                                                  neither idle nor cut
--   Close            writer stores the tail word   not closed                closed
--   Harvest lane     writer loads the lane's word  admitted or open          known := passed,
--                                                                            key_out := held
--   Admit lane       writer stores the lane's      idle, not closed          admitted,
--                    word                                                    start := length,
--                                                                            known := length
--   Open lane        lane loads its own word       admitted                  open, passed := start,
--                                                                            seen := start
--   Look lane        lane loads the tail word      open                      seen := length,
--                                                                            told := closed
--   Take lane        lane exchanges its own word   open, not held,           held; on a cut lane
--                                                  passed < seen             only told_cut
--   Pass lane        lane adds to its own word     open, held                got grows by the name
--                                                                            at passed, passed by
--                                                                            1, not held; on a cut
--                                                                            lane also told_cut
--   Cut lane         writer exchanges the lane's   admitted or open with     cut
--                    word                          the word last found, not
--                                                  cut, and passed =
--                                                  length - places
--   Leave lane       lane stores the greatest u64  open                      left
--   Retire lane      writer loads the lane's word  left                      idle
--   Note poster own  poster loads the tail word    such a poster is there;   places_known := length,
--                                                  own is nothing, or its    own joins its own posts
--                                                  name is at its place
--                                                  and it isn't own yet
--
-- An admitted lane's word shows `passed = start` and no key in hand. If the exchange of a cut finds another
-- word than the last one, it is a Harvest of that word, or a Retire. A cursor that is given back makes its
-- Leave and its Retire by one store.
--
-- A lane's record keeps whether its key is out, since a cut compares the whole word that was last
-- found. A lane that left while cut, with a key in its hand, keeps that key's batch until it is
-- retired.
use Rattle.std.specs.Prelude.{◌≡◌, ◌≢◌, ℕ, ◌+◌, ◌-◌, ◌<◌, Bool, true, false, ◌||◌, ⊤}
use Rattle.std.specs.Prelude.{List, [], ◌∷◌, ◌++◌, length, Option, Some, None, slice_get, if◌then◌else◌}
use Rattle.std.specs.List.{Contains}
use Rattle.am_steps.specs.declared.lane_record.LaneRecord.{LaneRecord}
use Rattle.am_steps.specs.declared.cursor.Cursor.{Cursor}
use Rattle.am_steps.specs.declared.lane.Lane.{Lane}
use Rattle.am_steps.specs.declared.lane.Lane.TheVariants.{Idle, Admitted, Open, Left}
use Rattle.am_steps.specs.declared.poster.Poster.{Poster}
use Rattle.am_steps.specs.declared.event.Event as event
use Rattle.am_steps.specs.declared.event.Event.TheVariants as does
use Rattle.am_steps.specs.States.{Core, LaneWord, record_of, with_record}
use Rattle.am_steps.specs.States.{word_of, new_record, new_cursor}

module _ {X : Type 0} where
  -- all but the lanes and the posters stays
  pub record SameLog (c d : Core X) : Type 0 where
    pub places : d.places ≡ c.places
    pub log : d.log ≡ c.log
    pub closed : d.closed ≡ c.closed
    pub lanes : d.lanes ≡ c.lanes
    pub posters : d.posters ≡ c.posters

  -- the lane becomes this, and all else stays
  pub record OnlyLane (c : Core X) (l : ℕ) (v : Lane X) (d : Core X) : Type 0 where
    pub same : SameLog c d
    pub here : d.lane l ≡ v
    pub other : (k : ℕ) → k ≢ l → d.lane k ≡ c.lane k
    pub poster : (p : ℕ) → d.poster p ≡ c.poster p

  -- the log, and whether it is closed, become these, and all else stays
  pub record OnlyLog (c : Core X) (names : List X) (ended : Bool) (d : Core X) : Type 0 where
    pub places : d.places ≡ c.places
    pub log : d.log ≡ names
    pub closed : d.closed ≡ ended
    pub lanes : d.lanes ≡ c.lanes
    pub posters : d.posters ≡ c.posters
    pub lane : (l : ℕ) → d.lane l ≡ c.lane l
    pub poster : (p : ℕ) → d.poster p ≡ c.poster p

  -- the poster becomes this, and all else stays
  pub record OnlyPoster (c : Core X) (p : ℕ) (v : Poster X) (d : Core X) : Type 0 where
    pub same : SameLog c d
    pub lane : (l : ℕ) → d.lane l ≡ c.lane l
    pub here : d.poster p ≡ v
    pub other : (q : ℕ) → q ≢ p → d.poster q ≡ c.poster q

  -- no lane's lag keeps the log from growing. That of a cut lane doesn't count
  abbrev pub MayGrow : Core X → Type 0
  MayGrow c = (l : ℕ) (m : LaneRecord) → record_of (c.lane l) ≡ Some m → m.cut ≡ false
      → length c.log - m.known < c.places

  -- the post may become the poster's own
  abbrev pub MayOwn : List X → Poster X → Option (ℕ × X) → Type 0
  MayOwn log v None = ⊤
  MayOwn log v (Some post) = (slice_get log post.0 ≡ Some post.1) × (Contains v.own post → ⊥)

  -- the own posts with one more, if there is one
  abbrev pub with_own : List (ℕ × X) → Option (ℕ × X) → List (ℕ × X)
  with_own own None = own
  with_own own (Some post) = own ++ post ∷ []

  -- the cursor of a lane, one place further
  abbrev pub one_further : LaneRecord → X → Cursor X → Cursor X
  one_further m x r = record r {
    passed = r.passed + 1;
    held = false;
    told_cut = r.told_cut || m.cut;
    got = r.got ++ x ∷ [];
  }

-- a step of the state, one constructor for each row of the table
pub data Step {X : Type 0} : Core X → event.Event X → Core X → Type 0 where
  publish : (c d : Core X) (x : X) → c.closed ≡ false → MayGrow c
      → OnlyLog c (c.log ++ x ∷ []) false d → Step c (does.Publish x) d
  close : (c d : Core X) → c.closed ≡ false → OnlyLog c c.log true d → Step c does.Close d
  harvest : (c d : Core X) (l : ℕ) (m : LaneRecord) (w : LaneWord)
      → record_of (c.lane l) ≡ Some m → word_of (c.lane l) ≡ Some w
      → OnlyLane c l (with_record (record m { known = w.passed; key_out = w.held }) (c.lane l)) d
      → Step c (does.Harvest l) d
  admit : (c d : Core X) (l : ℕ) → l < c.lanes → c.lane l ≡ Idle → c.closed ≡ false
      → OnlyLane c l (Admitted (new_record (length c.log))) d → Step c (does.Admit l) d
  opens : (c d : Core X) (l : ℕ) (m : LaneRecord) → c.lane l ≡ Admitted m
      → OnlyLane c l (Open m (new_cursor m.start)) d → Step c (does.Open l) d
  look : (c d : Core X) (l : ℕ) (m : LaneRecord) (r : Cursor X) → c.lane l ≡ Open m r
      → OnlyLane c l (Open m (record r { seen = length c.log; told = c.closed })) d
      → Step c (does.Look l) d
  take : (c d : Core X) (l : ℕ) (m : LaneRecord) (r : Cursor X) → c.lane l ≡ Open m r
      → r.held ≡ false → r.passed < r.seen
      → OnlyLane c l
      (Open m (if m.cut then record r { told_cut = true } else record r { held = true })) d
      → Step c (does.Take l) d
  pass : (c d : Core X) (l : ℕ) (m : LaneRecord) (r : Cursor X) (x : X) → c.lane l ≡ Open m r
      → r.held ≡ true → slice_get c.log r.passed ≡ Some x
      → OnlyLane c l (Open m (one_further m x r)) d → Step c (does.Pass l) d
  cut : (c d : Core X) (l : ℕ) (m : LaneRecord) → record_of (c.lane l) ≡ Some m
      → word_of (c.lane l) ≡ Some (record { passed = m.known; held = m.key_out })
      → m.cut ≡ false → m.known + c.places ≡ length c.log
      → OnlyLane c l (with_record (record m { cut = true }) (c.lane l)) d → Step c (does.Cut l) d
  leave : (c d : Core X) (l : ℕ) (m : LaneRecord) (r : Cursor X) → c.lane l ≡ Open m r
      → OnlyLane c l (Left m) d → Step c (does.Leave l) d
  retire : (c d : Core X) (l : ℕ) (m : LaneRecord) → c.lane l ≡ Left m
      → OnlyLane c l Idle d → Step c (does.Retire l) d
  note : (c d : Core X) (p : ℕ) (post : Option (ℕ × X)) → p < c.posters
      → MayOwn c.log (c.poster p) post
      → OnlyPoster c p
      (record { places_known = length c.log; own = with_own (c.poster p).own post }) d
      → Step c (does.Note p post) d
