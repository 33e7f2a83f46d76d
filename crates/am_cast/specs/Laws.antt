-- What each kind of step is to the core of am_steps, on any table: it keeps the rule, its seat has what
-- `Opens`, `Looks`, .. say, and the core's state goes through the events named.
use Rattle.std.specs.Prelude.{◌≡◌, ◌≢◌, ℕ, suc, ◌+◌, ◌*◌, ◌/◌, ◌%◌, ◌^◌, ◌<◌, List, [], ◌∷◌, ◌++◌, slice_set}
use Rattle.std.specs.Prelude.{slice_index, length, Option, Some, None, true, false, ◌==◌, ⊤}
use mathlib.Core.Option.{none, some}
use lib.ListN.{get_elem?}
use prog.Atomic.{either}
use Rattle.atomic_table.specs.Table.{step, State, opening}
use Rattle.am_steps.specs.declared.event.Event.TheVariants as does
use Rattle.am_steps.specs.States.{first_state}
use Rattle.am_steps.specs.Soundness.{IsSound}
use Rattle.am_steps.specs.Needed.{IsNeeded, IsFreed}
use Rattle.am_cast.specs.declared.limits.TheConstants.{LANES, LONGEST_LOG, WORDS}
use Rattle.am_cast.specs.declared.views.Account.{Account}
use Rattle.am_cast.specs.declared.views.LaneView.{LaneView}
use Rattle.am_cast.specs.declared.views.View.{View}
use Rattle.am_cast.specs.declared.views.WriterView.{WriterView}
use Rattle.am_cast.specs.Rule.{idle, live, cut, gone, tail_word, lane_word, writer_word, slot}
use Rattle.am_cast.specs.Rule.{blank, first_view, Ruled}
use Rattle.am_cast.specs.Steps.{SeatState, KnowsOf, Opens, Looks, Takes, Passes, Leaves, Harvests, Recovers}
use Rattle.am_cast.specs.Steps.{Cuts, Admits, Retires, Reclaims, Publishes, Closes, Reaches, Lays, Gathers}
use Rattle.am_cast.specs.Steps.{Clears, Notes, Weighs}
use Rattle.am_cast.specs.Changes.{copied, without_lane, only_lane, without_own, only_own, both_of}
use Rattle.am_cast.specs.Freed.{IsGathered, IsOut, IsFreedFor}
use Rattle.am_cast.specs.Seats.{account_of, HoldsIf}
use Rattle.am_cast.specs.Core.{state_of, found_events, recover_events, cut_events, reclaim_events, AllowsAs}
use Rattle.am_cast.specs.Core.{AllowsNote, StateStays}

module _ (B K A : Type 0) (key : B → ℕ → K) where
  -- a lane that was given out begins: Open
  abbrev pub OpensTheLane : Type 0
  OpensTheLane = (slots id : ℕ) (me : SeatState B K A) (v : LaneView B A) → me.0.lane ≡ Some v → v.here ≡ true
      → v.begun ≡ false
      → AllowsAs key slots id me (lane_word v.number) (λ n. n) (λ _. does.Open v.number ∷ [])
      (Opens (step slots (lane_word v.number) 0 0 none) me)

  -- a lane that has begun looks how long the log is: Look
  abbrev pub LooksAtTheLog : Type 0
  LooksAtTheLog = (slots id : ℕ) (me : SeatState B K A) (v : LaneView B A) → me.0.lane ≡ Some v
      → v.begun ≡ true
      → AllowsAs key slots id me 0 (λ n. n) (λ _. does.Look v.number ∷ []) (Looks (step slots 0 0 0 none) me)

  -- a lane exchanges its word for one that shows the key of the next place in its hand: Take
  abbrev pub TakesTheKey : Type 0
  TakesTheKey = (slots id : ℕ) (me : SeatState B K A) (v : LaneView B A) (old new : ℕ) → me.0.lane ≡ Some v
      → v.begun ≡ true → v.held ≡ false → v.passed < length v.front → old ≡ 4 * v.passed
      → new ≡ 4 * v.passed + 2
      → AllowsAs key slots id me (lane_word v.number) (λ n. either (n == old) new n)
      (λ _. does.Take v.number ∷ [])
      (Takes key (step slots (lane_word v.number) old new none) me)

  -- a lane gives the key in its hand back and adds 2 to its word: Pass
  abbrev pub PassesThePlace : Type 0
  PassesThePlace = (slots id : ℕ) (me : SeatState B K A) (v : LaneView B A) (x : B) (cs : List (ℕ × Option K))
      → me.0.lane ≡ Some v → v.begun ≡ true → v.held ≡ true → get_elem? v.front v.passed ≡ some x
      → me.1 ≡ (slot v.places v.number v.passed, Some (key x v.number)) ∷ cs
      → AllowsAs key slots id me (lane_word v.number) (λ n. (n + 2) % 2 ^ 64) (λ _. does.Pass v.number ∷ [])
      (Passes (step slots (lane_word v.number) 2 0 none) me)

  -- a lane with no key in its hand is left: Leave
  abbrev pub LeavesBare : Type 0
  LeavesBare = (slots id : ℕ) (me : SeatState B K A) (v : LaneView B A) (new : ℕ) → me.0.lane ≡ Some v
      → v.begun ≡ true → v.held ≡ false → new ≡ gone
      → AllowsAs key slots id me (lane_word v.number) (λ _. new) (λ _. does.Leave v.number ∷ [])
      (λ _. Leaves (step slots (lane_word v.number) new 0 none) me new)

  -- a lane gives the key in its hand back and is left: Leave
  abbrev pub LeavesWithKey : Type 0
  LeavesWithKey = (slots id : ℕ) (me : SeatState B K A) (v : LaneView B A) (x : B) (cs : List (ℕ × Option K))
      (new : ℕ) → me.0.lane ≡ Some v → v.begun ≡ true → v.held ≡ true → get_elem? v.front v.passed ≡ some x
      → me.1 ≡ (slot v.places v.number v.passed, Some (key x v.number)) ∷ cs → new ≡ gone
      → AllowsAs key slots id me (lane_word v.number) (λ _. new) (λ _. does.Leave v.number ∷ [])
      (λ _. Leaves (step slots (lane_word v.number) new 0 none) me new)

  -- the writer finds a live lane's word: Harvest, or Retire if the lane has left
  abbrev pub FindsTheWord : Type 0
  FindsTheWord = (slots id : ℕ) (me : SeatState B K A) (l : ℕ) (q : WriterView B K A) (b : Account K A)
      → KnowsOf me.0 l q b → b.stand ≡ live → b.laid ≡ None
      → AllowsAs key slots id me (lane_word l) (λ n. n) (found_events l)
      (Harvests (step slots (lane_word l) 0 0 none) me)

  -- the writer looks at a cut lane whose key is away: Harvest if the key is back, else nothing
  abbrev pub RecoversTheKey : Type 0
  RecoversTheKey = (slots id : ℕ) (me : SeatState B K A) (l : ℕ) (q : WriterView B K A) (b : Account K A)
      → KnowsOf me.0 l q b → b.stand ≡ cut → b.away ≡ true → b.cleared ≡ b.stop → b.out ≡ 0
      → AllowsAs key slots id me (lane_word l) (λ n. n) (recover_events l)
      (Recovers (step slots (lane_word l) 0 0 none) me)

  -- the writer exchanges the word that it found last for one more: Cut, or what it finds in place of it
  abbrev pub CutsTheLane : Type 0
  CutsTheLane = (slots id : ℕ) (me : SeatState B K A) (l : ℕ) (q : WriterView B K A) (b : Account K A)
      (old new : ℕ)
      → KnowsOf me.0 l q b → b.stand ≡ live → b.cleared ≡ b.known → b.stop ≡ b.known + q.tail.places
      → b.out ≡ 0
      → b.laid ≡ None → old ≢ gone → old / 4 ≡ b.known → old / 2 ≡ b.half → new ≡ old + 1
      → AllowsAs key slots id me (lane_word l) (λ n. either (n == old) new n) (cut_events l old)
      (Cuts (step slots (lane_word l) old new none) me)

  -- the writer gives an idle lane out: Admit
  abbrev pub AdmitsTheLane : Type 0
  AdmitsTheLane = (note : Option A) (slots id : ℕ) (me : SeatState B K A) (l : ℕ) (q : WriterView B K A)
      (b : Account K A) (new : ℕ) → KnowsOf me.0 l q b → q.tail.closed ≡ false → b.stand ≡ idle
      → b.cleared ≡ b.stop
      → b.out ≡ 0 → b.laid ≡ None → new ≡ 4 * length q.tail.log
      → AllowsAs key slots id me (lane_word l) (λ _. new) (λ _. does.Admit l ∷ [])
      (λ _. Admits note (step slots (lane_word l) new 0 none) me new)

  -- a lane whose seat took in the writer's is left, and is idle at once: Leave and Retire
  abbrev pub RetiresTheLane : Type 0
  RetiresTheLane = (slots id : ℕ) (me : SeatState B K A) (v : LaneView B A) (q : WriterView B K A)
      (b : Account K A) (new : ℕ)
      → me.0.lane ≡ Some v → KnowsOf me.0 v.number q b → v.begun ≡ true → HoldsIf key v.held me v
      → b.out ≡ 0 → b.laid ≡ None → (b.stand ≡ cut → b.cleared ≡ b.stop) → new ≡ gone
      → AllowsAs key slots id me (lane_word v.number) (λ _. new)
      (λ _. does.Leave v.number ∷ does.Retire v.number ∷ [])
      (λ _. Retires (step slots (lane_word v.number) new 0 none) me new)

  -- the writer looks whether a lane has left: Retire if it has, or nothing if that was found before
  abbrev pub ReclaimsTheLane : Type 0
  ReclaimsTheLane = (slots id : ℕ) (me : SeatState B K A) (l : ℕ) (q : WriterView B K A) (b : Account K A)
      → KnowsOf me.0 l q b → b.stand ≢ idle → b.out ≡ 0 → b.laid ≡ None
      → (b.stand ≡ cut → b.cleared ≡ b.stop)
      → AllowsAs key slots id me (lane_word l) (λ n. n) (reclaim_events l b.stand)
      (Reclaims (step slots (lane_word l) 0 0 none) me)

  -- the writer makes a place of which each live lane has its key: Publish
  abbrev pub PublishesTheBatch : Type 0
  PublishesTheBatch = (x : B) (slots id : ℕ) (me : SeatState B K A) (q : WriterView B K A) (new : ℕ)
      → me.0.writer ≡ Some q → q.tail.closed ≡ false → length q.tail.log < LONGEST_LOG
      → ((l : ℕ) (b : Account K A) → get_elem? q.accounts l ≡ some b → (b.out ≡ 0)
      × (b.stand ≡ live → b.laid ≡ Some (key x l))) → new ≡ tail_word (length q.tail.log + 1) false
      → AllowsAs key slots id me 0 (λ _. new) (λ _. does.Publish x ∷ [])
      (λ _. Publishes (Some x) (step slots 0 new 0 none) me new)

  -- the writer closes the log: Close
  abbrev pub ClosesTheLog : Type 0
  ClosesTheLog = (slots id : ℕ) (me : SeatState B K A) (q : WriterView B K A) (new : ℕ) → me.0.writer ≡ Some q
      → q.tail.closed ≡ false → new ≡ tail_word (length q.tail.log) true
      → AllowsAs key slots id me 0 (λ _. new) (λ _. does.Close ∷ [])
      (λ _. Closes (step slots 0 new 0 none) me new)

  -- the writer takes a lane's slot of the next place: nothing
  abbrev pub ReachesASlot : Type 0
  ReachesASlot = (slots id : ℕ) (me : SeatState B K A) (l : ℕ) (q : WriterView B K A) (b : Account K A)
      → KnowsOf me.0 l q b → b.stand ≡ live → b.out ≡ 0 → b.laid ≡ None → b.stop < b.cleared + q.tail.places
      → AllowsAs key slots id me (writer_word l) (λ n. n) (λ _. [])
      (Reaches (step slots (writer_word l) 0 0 none) me)

  -- the writer gives the slot back with a key in it: nothing
  abbrev pub LaysAKey : Type 0
  LaysAKey = (slots id : ℕ) (me : SeatState B K A) (l : ℕ) (q : WriterView B K A) (b : Account K A) (x : K)
      (cs : List (ℕ × Option K)) → KnowsOf me.0 l q b → b.stand ≡ live → b.out ≡ suc b.stop
      → b.stop < b.cleared + q.tail.places → me.1 ≡ (slot q.tail.places l b.stop, Some x) ∷ cs
      → AllowsAs key slots id me (writer_word l) (λ n. n) (λ _. [])
      (Lays (step slots (writer_word l) 0 0 none) me)

  -- the writer takes the slot of a place that the lane has passed: nothing
  abbrev pub GathersAKey : Type 0
  GathersAKey = (slots id : ℕ) (me : SeatState B K A) (l : ℕ) (q : WriterView B K A) (b : Account K A)
      → KnowsOf me.0 l q b → b.out ≡ 0 → (b.stand ≡ live → b.cleared < b.known)
      → (b.stand ≢ live → b.cleared < b.stop)
      → AllowsAs key slots id me (writer_word l) (λ n. n) (λ _. [])
      (Gathers key (step slots (writer_word l) 0 0 none) me)

  -- the writer gives the slot back empty: nothing
  abbrev pub ClearsASlot : Type 0
  ClearsASlot = (slots id : ℕ) (me : SeatState B K A) (l : ℕ) (q : WriterView B K A) (b : Account K A)
      (cs : List (ℕ × Option K)) → KnowsOf me.0 l q b → b.out ≡ suc b.cleared
      → (b.stand ≡ live → b.cleared < b.known) → (b.stand ≢ live → b.cleared < b.stop)
      → me.1 ≡ (slot q.tail.places l b.cleared, None) ∷ cs
      → AllowsAs key slots id me (writer_word l) (λ n. n) (λ _. [])
      (Clears (step slots (writer_word l) 0 0 none) me)

  -- a seat notes how long the log is: a Note of its poster for each place that became its own since, or one
  -- Note
  abbrev pub NotesTheLog : Type 0
  NotesTheLog = (slots id : ℕ) (me : SeatState B K A)
      → AllowsNote key slots id me (Notes (step slots 0 0 0 none) me)

  -- a seat compares what it knows: nothing
  abbrev pub WeighsTheView : Type 0
  WeighsTheView = (slots id : ℕ) (me : SeatState B K A)
      → AllowsAs key slots id me 0 (λ n. n) (λ _. []) (Weighs (step slots 0 0 0 none) me)

  -- a new seat has heard what another has seen: the state stays
  abbrev pub TellsASeat : Type 0
  TellsASeat = (s : State (Option K) (View B K A)) (r : Ruled key s) (id : ℕ) (v : View B K A)
      → get_elem? s.views id ≡ some v → StateStays s r (slice_set s.views id v
      ++ copied v ∷ []) (λ _. ⊤)

  -- the lane in a view gets its own seat: the state stays
  abbrev pub DealsALane : Type 0
  DealsALane = (s : State (Option K) (View B K A)) (r : Ruled key s) (id : ℕ) (w : View B K A)
      (v : LaneView B A)
      → w.lane ≡ Some v → get_elem? s.views id ≡ some w
      → StateStays s r (slice_set s.views id (without_lane w) ++ only_lane w ∷ []) (λ _. ⊤)

  -- the own places of a seat that is no poster's get a seat of their own: the state stays
  abbrev pub HandsOwnPlaces : Type 0
  HandsOwnPlaces = (s : State (Option K) (View B K A)) (r : Ruled key s) (id : ℕ) (w : View B K A)
      → get_elem? s.views id ≡ some w
      → StateStays s r (slice_set s.views id (without_own w) ++ only_own w ∷ []) (λ seat. seat ≢ id)

  -- a seat takes in all that another has, which is no poster's and is spent: the state stays
  abbrev pub TakesInASeat : Type 0
  TakesInASeat = (s : State (Option K) (View B K A)) (r : Ruled key s) (id other : ℕ) (v w : View B K A)
      → get_elem? s.views id ≡ some v → other ≢ id → get_elem? s.views other ≡ some w
      → StateStays s r (slice_set (slice_set s.views id (both_of v w)) other blank) (λ seat. seat ≢ other)

  -- a table as it is made, with empty slots, meets the rule and shows the core's first state with all lanes
  abbrev pub BeginsAtTheFirstState : Type 0
  BeginsAtTheFirstState = (words : List ℕ) (slots : List (Option K)) (places : ℕ) → length words ≡ WORDS
      → slice_index words 0 ≡ 0 → ((l : ℕ) → l < LANES → slice_index words (lane_word l) ≡ gone)
      → length slots ≡ LANES * places → ((i : ℕ) → i < length slots → get_elem? slots i ≡ some None)
      → 0 < places
      → (r : Ruled key (opening words slots (first_view {A = A} places)))
      × ((posters : ℕ) (seat_of : ℕ → ℕ) → state_of posters seat_of r ≡ first_state places LANES posters)

  -- what a table shows is a sound state of the core, whichever seats are the posters'
  abbrev pub ShowsASoundState : Type 0
  ShowsASoundState = (s : State (Option K) (View B K A)) (r : Ruled key s) (posters : ℕ) (seat_of : ℕ → ℕ)
      → IsSound (state_of posters seat_of r)

  -- the places that the core names freed are those that the writer's view does
  abbrev pub KnowsWhatIsFreed : Type 0
  KnowsWhatIsFreed = (s : State (Option K) (View B K A)) (r : Ruled key s) (id : ℕ) (u : View B K A)
      (q : WriterView B K A) (posters : ℕ) (seat_of : ℕ → ℕ) (i : ℕ) → get_elem? s.views id ≡ some u
      → u.writer ≡ Some q
      → (IsFreed (state_of posters seat_of r) i → IsFreedFor q i)
      × (IsFreedFor q i → IsFreed (state_of posters seat_of r) i)

  -- of a place that is freed no lane's key is out, if the writer has taken out all that it may
  abbrev pub FreedIsHome : Type 0
  FreedIsHome = (q : WriterView B K A) (i l : ℕ) → l < LANES → IsGathered (account_of q l) → IsFreedFor q i
      → IsOut (account_of q l) i → ⊥

  -- and a place of the log of which no lane's key is out is freed, if the writer has taken out all that it
  -- may and each live lane has its keys up to the log's end
  abbrev pub HomeIsFreed : Type 0
  HomeIsFreed = (q : WriterView B K A) (i : ℕ) → i < length q.tail.log
      → ((l : ℕ) → l < LANES → IsGathered (account_of q l) × ((account_of q l).stand ≡ live
      → (account_of q l).stop ≡ length q.tail.log) × (IsOut (account_of q l) i → ⊥))
      → IsFreedFor q i

  -- no place that a lane needs is one that the writer's view names freed
  abbrev pub NeededIsNotFreedFor : Type 0
  NeededIsNotFreedFor = (s : State (Option K) (View B K A)) (r : Ruled key s) (id : ℕ) (u : View B K A)
      (q : WriterView B K A) (posters : ℕ) (seat_of : ℕ → ℕ) (i : ℕ) → get_elem? s.views id ≡ some u
      → u.writer ≡ Some q → IsNeeded (state_of posters seat_of r) i → IsFreedFor q i → ⊥
