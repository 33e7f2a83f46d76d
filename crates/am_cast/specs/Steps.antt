-- What each step does to a seat's view and its slots.
use Rattle.std.specs.Prelude.{◌≡◌, ◌≢◌, ℕ, ◌/◌, ◌%◌, ◌<◌, ◌≤◌, List, [], ◌∷◌, ◌++◌, length, Option, Some}
use Rattle.std.specs.Prelude.{None, Bool, true}
use mathlib.Core.Option.{some}
use mathlib.Core.List.{IsPrefix}
use lib.ListN.{get_elem?}
use Rattle.atomic_table.specs.Table.{Me, rest}
use Rattle.atomic_table.specs.Table as table
use Rattle.am_cast.specs.declared.limits.TheConstants.{LONGEST_LOG}
use Rattle.am_cast.specs.declared.views.Account.{Account}
use Rattle.am_cast.specs.declared.views.WriterView.{WriterView}
use Rattle.am_cast.specs.declared.views.LaneView.{LaneView}
use Rattle.am_cast.specs.declared.views.Own.{Own}
use Rattle.am_cast.specs.declared.views.View.{View}
use Rattle.am_cast.specs.Rule.{idle, gone, tail_word, writer_word, lane_word, slot, Sound, Once}
use Rattle.am_cast.specs.Changes.{with_writer, with_lane, opened, seeing, holding, cut_off, further}
use Rattle.am_cast.specs.Changes.{laid_down, with_account, loaded, marked, known_to, back, retired, given_out}
use Rattle.am_cast.specs.Changes.{new_lane, severed, reaching, laying, clearing, longer, shut, own_at}
use Rattle.am_cast.specs.Changes.{AreInLog, without_lane}

-- a seat: its view, and the slots in its hand, each with its value
abbrev pub SeatState : Type 0 → Type 0 → Type 0 → Type 0
SeatState B K A = Me (Option K) (View B K A)

-- an atomic step: which word, and what it writes or compares
abbrev pub StepAt : Type 0 → Type 0
StepAt K = table.Step (Option K)

module _ {B K A : Type 0} where
  -- a lane begins
  abbrev pub Opens : StepAt K → SeatState B K A → ℕ → SeatState B K A → Type 0
  Opens st m n m' = (m'.1 ≡ m.1) × ((v : LaneView B A) → m.0.lane ≡ Some v → m'.0 ≡ with_lane (opened v) m.0)

  -- a lane looks how long the log is, and whether it is closed
  abbrev pub Looks : StepAt K → SeatState B K A → ℕ → SeatState B K A → Type 0
  Looks st m n m' = (m'.1 ≡ m.1) × ((v : LaneView B A) → m.0.lane ≡ Some v → (front : List B) × (told : Bool)
      × IsPrefix v.front front × IsPrefix m.0.heard front × (n ≡ tail_word (length front) told)
      × (length front ≤ LONGEST_LOG) × (m'.0 ≡ with_lane (seeing front told v) m.0))

  -- a lane exchanges its word: if it was the one looked for, the slot of the next place comes into its hand;
  -- else the lane was cut
  abbrev pub Takes : (B → ℕ → K) → StepAt K → SeatState B K A → ℕ → SeatState B K A → Type 0
  Takes key st m n m' = (v : LaneView B A) (x : B) → m.0.lane ≡ Some v → get_elem? v.front v.passed ≡ some x
      → (n ≡ st.first → (m'.0 ≡ with_lane (holding v) m.0)
      × (m'.1 ≡ (slot v.places v.number v.passed, Some (key x v.number)) ∷ m.1))
      × (n ≢ st.first → (m'.0 ≡ with_lane (cut_off v) m.0) × (m'.1 ≡ m.1))

  -- the slot in hand goes home, and the lane is one place further
  abbrev pub Passes : StepAt K → SeatState B K A → ℕ → SeatState B K A → Type 0
  Passes st m n m' = (m'.1 ≡ rest m.1)
      × ((v : LaneView B A) → m.0.lane ≡ Some v → m'.0 ≡ with_lane (further n v) m.0)

  -- the slot in hand goes home, if there is one, and the lane is left: its seat knows nothing of it any more
  abbrev pub Leaves : StepAt K → SeatState B K A → ℕ → SeatState B K A → Type 0
  Leaves st m n m' = (v : LaneView B A) → m.0.lane ≡ Some v → (m'.0 ≡ without_lane m.0)
      × (m'.1 ≡ laid_down v.held m.1)

  -- the writer's account l goes from b to b', and nothing else of the view
  abbrev pub SetsAccount : ℕ → WriterView B K A → Account K A → View B K A → View B K A → Type 0
  SetsAccount l q b' w w' = w' ≡ with_writer (with_account l b' q) w

  -- of the lane l the writer knows b
  abbrev pub KnowsOf : View B K A → ℕ → WriterView B K A → Account K A → Type 0
  KnowsOf w l q b = (w.writer ≡ Some q) × (get_elem? q.accounts l ≡ some b)

  -- what a found word tells of a lane that isn't cut
  abbrev pub Finds : ℕ → WriterView B K A → Account K A → ℕ → View B K A → View B K A → Type 0
  Finds l q b n w w' = (n ≡ gone → SetsAccount l q (marked b) w w')
      × (n ≢ gone → SetsAccount l q (known_to n b) w w' × (b.known ≤ n / 4) × (n / 4 ≤ length q.tail.log)
      × (b.half ≤ n / 2) × (n % 2 ≡ 0))

  -- the writer finds a lane's word
  abbrev pub Harvests : StepAt K → SeatState B K A → ℕ → SeatState B K A → Type 0
  Harvests st m n m' = (m'.1 ≡ m.1)
      × ((l : ℕ) (q : WriterView B K A) (b : Account K A) → st.word ≡ lane_word l → KnowsOf m.0 l q b
      → Finds l q b n m.0 m'.0)

  -- a look at a cut lane, whose key is away
  abbrev pub Recovers : StepAt K → SeatState B K A → ℕ → SeatState B K A → Type 0
  Recovers st m n m' = (m'.1 ≡ m.1)
      × ((l : ℕ) (q : WriterView B K A) (b : Account K A) → st.word ≡ lane_word l → KnowsOf m.0 l q b
      → (n / 2 % 2 ≡ 0 → SetsAccount l q (back (n / 4) (loaded b)) m.0 m'.0 × (b.known ≤ n / 4)
      × (n / 4 ≤ length q.tail.log)) × (n / 2 % 2 ≢ 0 → SetsAccount l q (loaded b) m.0 m'.0))

  -- a lane is cut, if its word was the one looked for; else its word is found
  abbrev pub Cuts : StepAt K → SeatState B K A → ℕ → SeatState B K A → Type 0
  Cuts st m n m' = (m'.1 ≡ m.1)
      × ((l : ℕ) (q : WriterView B K A) (b : Account K A) → st.word ≡ lane_word l → KnowsOf m.0 l q b
      → (n ≡ st.first → SetsAccount l q (severed (n / 2 % 2) b) m.0 m'.0)
      × (n ≢ st.first → Finds l q b n m.0 m'.0))

  -- a lane is given out: its seat is the writer's at first
  abbrev pub Admits : Option A → StepAt K → SeatState B K A → ℕ → SeatState B K A → Type 0
  Admits note st m n m' = (m'.1 ≡ m.1)
      × ((l : ℕ) (q : WriterView B K A) (b : Account K A) → st.word ≡ lane_word l → KnowsOf m.0 l q b
      → m'.0 ≡ record m.0 {
        writer = Some (with_account l (given_out note (length q.tail.log) b) q);
        lane = Some (new_lane note l q.tail b);
      })

  -- the lane's seat has taken in the writer's: the slot in hand goes home, and the lane is left and idle
  abbrev pub Retires : StepAt K → SeatState B K A → ℕ → SeatState B K A → Type 0
  Retires st m n m' = (v : LaneView B A) (q : WriterView B K A) (b : Account K A) → m.0.lane ≡ Some v
      → KnowsOf m.0 v.number q b
      → Sound q.tail b v v.number × (b.stand ≢ idle) × (m'.1 ≡ laid_down v.held m.1)
      × (m'.0 ≡ record m.0 { writer = Some (with_account v.number (retired b) q); lane = None })

  -- a lane whose word shows that it has left is idle
  abbrev pub Reclaims : StepAt K → SeatState B K A → ℕ → SeatState B K A → Type 0
  Reclaims st m n m' = (m'.1 ≡ m.1)
      × ((l : ℕ) (q : WriterView B K A) (b : Account K A) → st.word ≡ lane_word l → KnowsOf m.0 l q b
      → (n ≡ gone → SetsAccount l q (retired b) m.0 m'.0)
      × (n ≢ gone → SetsAccount l q (loaded b) m.0 m'.0))

  -- the writer takes the slot of the next place
  abbrev pub Reaches : StepAt K → SeatState B K A → ℕ → SeatState B K A → Type 0
  Reaches st m n m' = (l : ℕ) (q : WriterView B K A) (b : Account K A) → st.word ≡ writer_word l
      → KnowsOf m.0 l q b
      → SetsAccount l q (reaching b.stop b) m.0 m'.0 × (m'.1 ≡ (slot q.tail.places l b.stop, None) ∷ m.1)

  -- the slot in hand goes home with a key in it
  abbrev pub Lays : StepAt K → SeatState B K A → ℕ → SeatState B K A → Type 0
  Lays st m n m' = (m'.1 ≡ rest m.1)
      × ((l : ℕ) (q : WriterView B K A) (b : Account K A) (i : ℕ) (k : K) → st.word ≡ writer_word l
      → KnowsOf m.0 l q b → m.1 ≡ (i, Some k) ∷ rest m.1
      → SetsAccount l q (laying k b) m.0 m'.0)

  -- the writer takes the slot of a place that the lane has passed
  abbrev pub Gathers : (B → ℕ → K) → StepAt K → SeatState B K A → ℕ → SeatState B K A → Type 0
  Gathers key st m n m' = (l : ℕ) (q : WriterView B K A) (b : Account K A) (x : B) → st.word ≡ writer_word l
      → KnowsOf m.0 l q b → get_elem? q.tail.log b.cleared ≡ some x
      → SetsAccount l q (reaching b.cleared b) m.0 m'.0
      × (m'.1 ≡ (slot q.tail.places l b.cleared, Some (key x l)) ∷ m.1)

  -- the slot in hand goes home empty
  abbrev pub Clears : StepAt K → SeatState B K A → ℕ → SeatState B K A → Type 0
  Clears st m n m' = (m'.1 ≡ rest m.1)
      × ((l : ℕ) (q : WriterView B K A) (b : Account K A) → st.word ≡ writer_word l → KnowsOf m.0 l q b
      → SetsAccount l q (clearing b) m.0 m'.0)

  -- the log has one batch more, this one, and it is the seat's own: tokio's `broadcast::Sender::send`
  abbrev pub Publishes : Option B → StepAt K → SeatState B K A → ℕ → SeatState B K A → Type 0
  Publishes batch st m n m' = (m'.1 ≡ m.1)
      × ((x : B) → batch ≡ Some x → (q : WriterView B K A) → m.0.writer ≡ Some q
      → m'.0 ≡ record m.0 { writer = Some (longer x q); own = m.0.own ++ own_at (length q.tail.log) x ∷ [] })

  -- the log is closed: crossbeam's `Channel::disconnect`, which sets the tail's mark bit
  abbrev pub Closes : StepAt K → SeatState B K A → ℕ → SeatState B K A → Type 0
  Closes st m n m' = (m'.1 ≡ m.1) × ((q : WriterView B K A) → m.0.writer ≡ Some q
      → m'.0 ≡ with_writer (shut q) m.0)

  -- all that the parts of a view say of each other
  pub record Weighed (w : View B K A) : Type 0 where
    pub once : Once w.own
    pub heard : (k : ℕ) (o : Own B) → get_elem? w.own k ≡ some o → o.place < length w.heard
        → get_elem? w.heard o.place ≡ some o.batch
    pub writer : (q : WriterView B K A) → w.writer ≡ Some q → IsPrefix w.heard q.tail.log
        × (w.whole ≡ true → (q.tail.closed ≡ true) × (w.heard ≡ q.tail.log)) × AreInLog w.own q.tail.log
    pub lane : (v : LaneView B A) (q : WriterView B K A) (b : Account K A) → w.lane ≡ Some v
        → KnowsOf w v.number q b → Sound q.tail b v v.number × (b.stand ≢ idle)

  -- a seat learns what its parts say of each other
  abbrev pub Weighs : StepAt K → SeatState B K A → ℕ → SeatState B K A → Type 0
  Weighs st m n m' = (m'.0 ≡ m.0) × (m'.1 ≡ m.1) × Weighed m.0

  -- a seat notes the log, and its own places are there
  abbrev pub Notes : StepAt K → SeatState B K A → ℕ → SeatState B K A → Type 0
  Notes st m n m' = (m'.1 ≡ m.1)
      × ((front : List B) × (told : Bool) × IsPrefix m.0.noted front × IsPrefix m.0.heard front
      × AreInLog m.0.own front
      × (n ≡ tail_word (length front) told) × (length front ≤ LONGEST_LOG)
      × (m'.0 ≡ record m.0 { noted = front; counted = length m.0.own }))
