-- The rule of the table: its words, its slots and its seats' views show one log. It is this project's own.
-- Crossbeam's channel (`flavors/array.rs`) and tokio's `sync::broadcast` have such a ring of slots and a
-- tail.
use Rattle.std.specs.Prelude.{◌≡◌, ◌≢◌, ℕ, suc, ◌+◌, ◌*◌, ◌/◌, ◌%◌, ◌<◌, ◌≤◌, List, [], ◌∷◌, length, ⊤}
use Rattle.std.specs.Prelude.{replicate, slice_index, Option, Some, None, Bool, true, false}
use mathlib.Core.Option.{some}
use mathlib.Core.Option as maybe
use mathlib.Core.List.{IsPrefix}
use lib.ListN.{get_elem?}
use Rattle.atomic_table.specs.Table.{State}
use Rattle.am_cast.specs.declared.limits.TheConstants.{LANES, LONGEST_LOG, WORDS}
use Rattle.am_cast.specs.declared.views.Tail.{Tail}
use Rattle.am_cast.specs.declared.views.Account.{Account}
use Rattle.am_cast.specs.declared.views.WriterView.{WriterView}
use Rattle.am_cast.specs.declared.views.LaneView.{LaneView}
use Rattle.am_cast.specs.declared.views.Own.{Own}
use Rattle.am_cast.specs.declared.views.View.{View}

-- a bit of a word
abbrev pub bit : Bool → ℕ
bit true = 1
bit false = 0

-- A lane's standing as the writer has it, by number. Half of it, rounded down, is the cut bit of the lane's
-- word. Idle is nobody's
abbrev pub idle : ℕ
idle = 0

-- given out: it gets its key of each new place
abbrev pub live : ℕ
live = 1

-- cut: it gets no more keys
abbrev pub cut : ℕ
cut = 2

-- found left: it gets no more keys
abbrev pub vacated : ℕ
vacated = 3

-- the word of a lane that is idle or has left, the greatest u64
abbrev pub gone : ℕ
gone = 18446744073709551615

-- one more than the greatest u64
abbrev pub word_end : ℕ
word_end = 18446744073709551616

-- word 0 shows how long the log is, and whether it is closed: its lowest bit is the mark bit of crossbeam's
-- tail
abbrev pub tail_word : ℕ → Bool → ℕ
tail_word n closed = 2 * n + bit closed

-- the index of the word that the writer loads at its silent steps on the slots of the lane l
abbrev pub writer_word : ℕ → ℕ
writer_word l = l + 144

-- the index of a lane's word
abbrev pub lane_word : ℕ → ℕ
lane_word l = 16 * l + 16

-- what a lane's word shows: a number if the lane is here
abbrev pub shown : Bool → ℕ → ℕ
shown true n = n
shown false n = gone

-- the slot of the lane l's key of the place i: each lane has a ring of as many slots as there are places, and
-- the lanes' slots of one place lie side by side
abbrev pub slot : ℕ → ℕ → ℕ → ℕ
slot places l i = LANES * (i % places) + l

-- the slots: a slot at home has a key or none, one in a seat's hand is missing
abbrev pub Homes : Type 0 → Type 0
Homes K = List (maybe.Option (Option K))

-- the slot of the place i has this value
abbrev pub Has : {K : Type 0} → Homes K → ℕ → ℕ → ℕ → Option K → Type 0
Has homes places l i y = get_elem? homes (slot places l i) ≡ some (some y)

-- a lane that has not begun
pub record IsUnbegun {B A : Type 0} (v : LaneView B A) : Type 0 where
  pub passed : v.passed ≡ v.start
  pub held : v.held ≡ false
  pub seen : length v.front ≡ v.start
  pub told : v.told ≡ false
  pub cut : v.cut ≡ false

-- what a lane has seen
pub record Seen {B A : Type 0} (t : Tail B) (v : LaneView B A) (l : ℕ) : Type 0 where
  pub number : v.number ≡ l
  pub places : v.places ≡ t.places
  -- the log as it saw it begins the log
  pub begins : IsPrefix v.front t.log
  pub begun : v.begun ≡ true → v.here ≡ true
  pub unbegun : v.here ≡ true → v.begun ≡ false → IsUnbegun v
  pub high : v.passed ≤ length v.front
  pub holds : v.held ≡ true → (v.here ≡ true) × (v.passed < length v.front)
  -- a lane whose last look showed the log closed has seen all of it
  pub told : v.told ≡ true → (t.closed ≡ true) × (v.front ≡ t.log)

-- the numbers of the writer's account of a lane. Its keys are in the slots from `cleared` to `stop`, at most
-- `places` of them
pub record Numbers {B K A : Type 0} (t : Tail B) (b : Account K A) : Type 0 where
  pub stands : b.stand < 4
  pub low : b.start ≤ b.known
  pub clear : b.cleared ≤ b.stop
  pub room : b.stop ≤ b.cleared + t.places
  pub stops : b.stop ≤ length t.log
  -- a live lane has a key of each place from `known` on, and the writer holds none of their slots
  pub lives : b.stand ≡ live → (b.stop ≡ length t.log) × (b.cleared ≤ b.known)
      × ((i : ℕ) → b.known ≤ i → i < b.stop → b.out ≢ suc i)
  -- a key is laid for the next place only if there is room
  pub lays : (k : K) → b.laid ≡ Some k → (b.stand ≡ live) × (b.stop < b.cleared + t.places)
  -- the key that a cut lane holds is of the place `known`, and all before that place are cleared
  pub aways : b.away ≡ true → (b.stand ≡ cut) × (b.stop ≡ b.known + t.places) × (b.known < b.cleared)

-- a lane, and what the writer knows of it
pub record Sound {B K A : Type 0} (t : Tail B) (b : Account K A) (v : LaneView B A) (l : ℕ) : Type 0 where
  pub seen : Seen t v l
  pub counts : Numbers t b
  pub turn : v.turn ≡ b.turn
  pub note : v.note ≡ b.note
  pub start : v.start ≡ b.start
  pub idles : b.stand ≡ idle → v.here ≡ false
  pub vacates : b.stand ≡ vacated → v.here ≡ false
  -- the writer knows no more than the lane has passed
  pub mid : b.known ≤ v.passed
  -- nor more than its word shows: half of the word, without the cut bit, only grows
  pub halves : v.here ≡ true → b.half ≤ 2 * v.passed + bit v.held
  -- a cursor that has answered Cut is that of a lane that the writer cut
  pub cuts : v.cut ≡ true → (b.stand ≢ live) × (b.stand ≢ vacated)
  -- the key in the hand of a cut lane is the one that the writer knows to be away
  pub keeps : b.stand ≡ cut → v.held ≡ true → (b.away ≡ true) × (v.passed ≡ b.known)
  -- the cursor of a cut lane passes no place but the one that its word showed in its hand when it was cut
  pub lags : b.stand ≡ cut → v.passed + bit v.held ≤ b.half / 2 + b.half % 2

-- one lane's word and slots show it
pub record LaneOk {B K A : Type 0} (key : B → ℕ → K) (t : Tail B) (b : Account K A) (v : LaneView B A)
    (words : List ℕ) (homes : Homes K) (l : ℕ) : Type 0 where
  pub sound : Sound t b v l
  pub word : slice_index words (lane_word l) ≡ shown v.here (4 * v.passed + 2 * bit v.held + b.stand / 2)
  -- the keys of the window are at home, except a slot in the writer's hand and the one in the cursor's
  pub keys : (i : ℕ) (x : B) → b.cleared ≤ i → i < b.stop → get_elem? t.log i ≡ some x → b.out ≢ suc i
      → (v.held ≡ true → i ≢ v.passed) → Has homes t.places l i (Some (key x l))
  -- the other slots of a turn are empty, except one in the writer's hand, that of the key that is away, and
  -- that of the key laid for the next place
  pub empty : (i : ℕ) → b.stop ≤ i → i < b.cleared + t.places → b.out ≢ suc i
      → (b.away ≡ true → i ≢ b.known + t.places) → (i ≡ b.stop → b.laid ≡ None) → Has homes t.places l i None
  -- the key that is laid is the writer's
  pub laid : (k : K) → b.laid ≡ Some k → Has homes t.places l b.stop (Some k)
  -- the key that was away is home once the cursor's hand is empty
  pub away : b.away ≡ true → (x : B) → get_elem? t.log b.known ≡ some x → v.held ≡ false
      → Has homes t.places l b.known (Some (key x l))

-- the place isn't among these
abbrev pub IsApart : {B : Type 0} → ℕ → List (Own B) → Type 0
IsApart p [] = ⊤
IsApart p (o ∷ os) = (o.place ≢ p) × IsApart p os

-- no place is there twice
abbrev pub Once : {B : Type 0} → List (Own B) → Type 0
Once [] = ⊤
Once (o ∷ os) = IsApart o.place os × Once os

-- these places are in the log, and are the seat's own
pub record Owns {B : Type 0} (log : List B) (owner : ℕ → ℕ) (j : ℕ) (own : List (Own B)) : Type 0 where
  pub each : (k : ℕ) (o : Own B) → get_elem? own k ≡ some o → (get_elem? log o.place ≡ some o.batch)
      × (owner o.place ≡ j)
  pub once : Once own

module _ {B K A : Type 0} (tail : Tail B) (seat : ℕ) (account : ℕ → Account K A) (lane : ℕ → LaneView B A)
    (lane_seat : ℕ → ℕ) (j : ℕ) where
  -- the writer's part of a view, if it has one: the log and each lane's account, and the seat is the writer's
  abbrev pub HasWriter : Option (WriterView B K A) → Type 0
  HasWriter None = ⊤
  HasWriter (Some q) = (q.tail ≡ tail) × (length q.accounts ≡ LANES)
      × ((l : ℕ) → l < LANES → get_elem? q.accounts l ≡ some (account l)) × (j ≡ seat)

  -- the lane's part of a view, if it has one: that lane as it is, not left, and the seat is that lane's
  abbrev pub HasLane : Option (LaneView B A) → Type 0
  HasLane None = ⊤
  HasLane (Some v) = (v.number < LANES) × (lane v.number ≡ v) × (lane_seat v.number ≡ j)
      × (v.here ≡ true)

-- a seat's view agrees with the log, the accounts and the lanes; what it has noted and heard begins the log
pub record SeatOk {B K A : Type 0} (tail : Tail B) (seat : ℕ) (account : ℕ → Account K A)
    (lane : ℕ → LaneView B A)
    (lane_seat owner : ℕ → ℕ) (j : ℕ) (w : View B K A) : Type 0 where
  pub writer : HasWriter tail seat account lane lane_seat j w.writer
  pub lane_is : HasLane tail seat account lane lane_seat j w.lane
  pub noted : IsPrefix w.noted tail.log
  -- the own places that it has noted are the first ones, and those that it knows of
  pub counts : w.counted ≤ length w.own
  pub counted : (k : ℕ) (o : Own B) → get_elem? w.own k ≡ some o → k < w.counted → o.place < length w.noted
  pub heard : IsPrefix w.heard tail.log
  pub whole : w.whole ≡ true → (tail.closed ≡ true) × (w.heard ≡ tail.log)
  pub owns : Owns tail.log owner j w.own

-- the rule: one log, one account and one lane for each number, with which words, slots and views agree
pub record Ruled {B K A : Type 0} (key : B → ℕ → K) (s : State (Option K) (View B K A)) : Type 0 where
  pub tail : Tail B
  -- the writer's seat
  pub seat : ℕ
  pub account : ℕ → Account K A
  pub lane : ℕ → LaneView B A
  -- the seat of each lane that hasn't left
  pub lane_seat : ℕ → ℕ
  -- whose own a place is
  pub owner : ℕ → ℕ
  pub wide : length s.words ≡ WORDS
  pub deep : length s.homes ≡ LANES * tail.places
  pub some_places : 0 < tail.places
  pub few : length tail.log ≤ LONGEST_LOG
  pub word : slice_index s.words 0 ≡ tail_word (length tail.log) tail.closed
  pub each_lane : (l : ℕ) → l < LANES → LaneOk key tail (account l) (lane l) s.words s.homes l
  pub each_seat : (j : ℕ) (w : View B K A) → get_elem? s.views j ≡ some w
      → SeatOk tail seat account lane lane_seat owner j w

-- what the writer knows of a lane that was never given out
abbrev pub first_account : {K A : Type 0} → Account K A
first_account = record {
  stand = idle;
  turn = 0;
  note = None;
  start = 0;
  known = 0;
  half = 0;
  cleared = 0;
  stop = 0;
  away = false;
  out = 0;
  laid = None;
  loads = 0;
}

-- a lane that was never given out
abbrev pub first_lane : {B A : Type 0} → ℕ → ℕ → LaneView B A
first_lane places l = record {
  number = l;
  places = places;
  turn = 0;
  note = None;
  start = 0;
  here = false;
  begun = false;
  front = [];
  passed = 0;
  held = false;
  told = false;
  cut = false;
  looks = 0;
}

-- an empty log
abbrev pub first_tail : {B : Type 0} → ℕ → Tail B
first_tail places = record { places = places; log = []; closed = false }

-- what the writer knows at first
abbrev pub first_writer : {B K A : Type 0} → ℕ → WriterView B K A
first_writer places = record { tail = first_tail places; accounts = replicate LANES first_account }

-- a seat that knows nothing
abbrev pub blank : {B K A : Type 0} → View B K A
blank = record { writer = None; lane = None; noted = []; heard = []; whole = false; own = []; counted = 0 }

-- what the first seat knows
abbrev pub first_view : {B K A : Type 0} → ℕ → View B K A
first_view places = record blank { writer = Some (first_writer places) }
