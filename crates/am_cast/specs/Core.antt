-- The state of am_steps' core that a table shows which meets the rule, and which of its events a step is.
use Rattle.std.specs.Prelude.{◌≡◌, ◌≢◌, ℕ, zero, suc, ◌/◌, ◌%◌, ◌<◌, Bool, true, false, List, [], ◌∷◌, take}
use Rattle.std.specs.Prelude.{drop, length, ◌==◌, slice_index, Option, Some, None, if◌then◌else◌, nat_lt, map}
use lib.ListN.{get_elem?}
use mathlib.Core.Option as maybe
use mathlib.Core.Option.{some, none}
use Rattle.atomic_table.specs.Table.{State, Act, Valid, stepped, carried_after}
use Rattle.am_steps.specs.declared.lane_record.LaneRecord.{LaneRecord}
use Rattle.am_steps.specs.declared.cursor.Cursor.{Cursor}
use Rattle.am_steps.specs.declared.lane.Lane.{Lane}
use Rattle.am_steps.specs.declared.lane.Lane.TheVariants.{Idle, Admitted, Open, Left}
use Rattle.am_steps.specs.declared.poster.Poster.{Poster}
use Rattle.am_steps.specs.declared.event.Event as event
use Rattle.am_steps.specs.declared.event.Event.TheVariants as does
use Rattle.am_steps.specs.States as steps
use Rattle.am_steps.specs.Runs.{LeadsTo}
use Rattle.am_cast.specs.declared.limits.TheConstants.{LANES}
use Rattle.am_cast.specs.declared.views.Account.{Account}
use Rattle.am_cast.specs.declared.views.LaneView.{LaneView}
use Rattle.am_cast.specs.declared.views.Own.{Own}
use Rattle.am_cast.specs.declared.views.Tail.{Tail}
use Rattle.am_cast.specs.declared.views.View.{View}
use Rattle.am_cast.specs.Rule.{cut, gone, vacated, blank, word_end, Ruled}
use Rattle.am_cast.specs.Steps.{SeatState}

module _ {K A : Type 0} where
  -- the key of the place known was in the cursor's hand, when the writer found the lane's word last
  abbrev pub is_key_out : Account K A → Bool
  is_key_out b = if b.stand == cut then b.away else (b.half % 2 == 1)

  -- what the core's writer records of a lane
  abbrev pub record_behind : Account K A → LaneRecord
  record_behind b = record { start = b.start; known = b.known; key_out = is_key_out b; cut = b.stand == cut }

module _ {B A : Type 0} where
  -- what the core's cursor knows
  abbrev pub cursor_behind : LaneView B A → Cursor B
  cursor_behind v = record {
    passed = v.passed;
    held = v.held;
    seen = length v.front;
    told = v.told;
    told_cut = v.cut;
    got = drop v.start (take v.passed v.front);
  }

module _ {B : Type 0} where
  -- an own place as the core's posters note it
  abbrev pub post_of : Own B → ℕ × B
  post_of o = (o.place, o.batch)

  -- a poster that knows that many places, and noted these posts as its own
  abbrev pub poster_of : ℕ → List (Own B) → Poster B
  poster_of known own = record { places_known = known; own = map post_of own }

  -- a lane that isn't idle: left, or admitted, or open
  abbrev pub used_lane : Bool → Bool → LaneRecord → Cursor B → Lane B
  used_lane true true m r = Open m r
  used_lane true false m r = Admitted m
  used_lane false begun m r = Left m

  -- an idle lane has no record, and one that the writer has found vacated has none any more
  abbrev pub lane_standing : ℕ → Lane B → Lane B
  lane_standing (suc zero) v = v
  lane_standing (suc (suc zero)) v = v
  lane_standing _ v = Idle

module _ {B K A : Type 0} where
  -- a lane of the core
  abbrev pub lane_behind : Account K A → LaneView B A → Lane B
  lane_behind b v = lane_standing b.stand (used_lane v.here v.begun (record_behind b) (cursor_behind v))

  -- a poster of the core, by its seat
  abbrev pub poster_behind : View B K A → Poster B
  poster_behind w = poster_of (length w.noted) (take w.counted w.own)

  -- a view, or that of a seat that knows nothing
  abbrev pub view_or_blank : maybe.Option (View B K A) → View B K A
  view_or_blank (some w) = w
  view_or_blank none = blank

-- the core's state of a log's tail, what the writer knows of each lane, the lanes and the posters
abbrev pub core_behind : {B K A : Type 0} → ℕ → (ℕ → Poster B) → Tail B → (ℕ → Account K A)
    → (ℕ → LaneView B A)
    → steps.Core B
core_behind posters poster t account lane = record {
  places = t.places;
  log = t.log;
  closed = t.closed;
  lanes = LANES;
  lane = λ l. if nat_lt l LANES then lane_behind (account l) (lane l) else Idle;
  posters = posters;
  poster = poster;
}

-- the core's state of a table on which the poster p has the seat `seat_of p`
abbrev pub state_of : {B K A : Type 0} {key : B → ℕ → K} {s : State (Option K) (View B K A)} → ℕ → (ℕ → ℕ)
    → Ruled key s → steps.Core B
state_of {s = s} posters seat_of r = core_behind posters
    (λ p. poster_behind (view_or_blank (get_elem? s.views (seat_of p)))) r.tail r.account r.lane

module _ {B : Type 0} where
  -- the events of a load of a lane's word that finds n: a lane that has left is retired
  abbrev pub found_events : ℕ → ℕ → List (event.Event B)
  found_events l n = if n == gone then (does.Retire l ∷ []) else (does.Harvest l ∷ [])

  -- those of a look at a cut lane whose key is away: nothing, if it is still away
  abbrev pub recover_events : ℕ → ℕ → List (event.Event B)
  recover_events l n = if (n / 2 % 2) == 0 then (does.Harvest l ∷ []) else []

  -- those of an exchange that looks for the word `old` and finds n
  abbrev pub cut_events : ℕ → ℕ → ℕ → List (event.Event B)
  cut_events l old n = if n == old then (does.Cut l ∷ []) else found_events l n

  -- those of a lane that has left becoming idle: nothing, if the writer had found it vacated
  abbrev pub retire_events : ℕ → ℕ → List (event.Event B)
  retire_events l stand = if stand == vacated then [] else (does.Retire l ∷ [])

  -- those of a load that looks whether a lane has left, and finds n
  abbrev pub reclaim_events : ℕ → ℕ → ℕ → List (event.Event B)
  reclaim_events l stand n = if n == gone then retire_events l stand else []

module _ {B : Type 0} where
  -- a Note for each of these places
  abbrev pub note_posts : ℕ → List (Own B) → List (event.Event B)
  note_posts p [] = []
  note_posts p (o ∷ os) = does.Note p (Some (post_of o)) ∷ note_posts p os

  -- the events of a poster's load of the tail word, with the places that became its own since its last load:
  -- at least one Note
  abbrev pub note_events : ℕ → List (Own B) → List (event.Event B)
  note_events p [] = does.Note p None ∷ []
  note_events p (o ∷ os) = note_posts p (o ∷ os)

-- `Allows` of the table, for a step that keeps the rule and is these events of the core, by the word that it
-- finds
abbrev pub AllowsAs : {B K A : Type 0} → (B → ℕ → K) → ℕ → ℕ → SeatState B K A → ℕ → (ℕ → ℕ)
    → (ℕ → List (event.Event B)) → (ℕ → SeatState B K A → Type 0) → Type 0
AllowsAs {B = B} {K = K} {A = A} key slots id me i f es tells = (s : State (Option K) (View B K A))
    (r : Ruled key s) → length s.homes ≡ slots → get_elem? s.views id ≡ some me.0
    → slice_index s.words i < word_end
    → (w : View B K A) × (a : Act (Option K)) × Valid s.homes me.1 a
    × ((q : Ruled key (stepped s i (f (slice_index s.words i)) id me.1 w a))
    × ((posters : ℕ) (seat_of : ℕ → ℕ)
    → LeadsTo (state_of posters seat_of r) (es (slice_index s.words i)) (state_of posters seat_of q)))
    × tells (slice_index s.words i) (w, carried_after me.1 a)

-- the same of a Note: these events if the seat is the poster p's and no other poster's, and none if it is
-- nobody's
abbrev pub AllowsNote : {B K A : Type 0} → (B → ℕ → K) → ℕ → ℕ → SeatState B K A
    → (ℕ → SeatState B K A → Type 0)
    → Type 0
AllowsNote {B = B} {K = K} {A = A} key slots id me tells = (s : State (Option K) (View B K A))
    (r : Ruled key s) → length s.homes ≡ slots → get_elem? s.views id ≡ some me.0
    → slice_index s.words 0 < word_end
    → (w : View B K A) × (a : Act (Option K)) × Valid s.homes me.1 a
    × ((q : Ruled key (stepped s 0 (slice_index s.words 0) id me.1 w a))
    × ((posters : ℕ) (seat_of : ℕ → ℕ) (p : ℕ) → p < posters → seat_of p ≡ id
    → ((k : ℕ) → k ≢ p → seat_of k ≢ id)
    → LeadsTo (state_of posters seat_of r) (note_events p (drop me.0.counted me.0.own))
    (state_of posters seat_of q))
    × ((posters : ℕ) (seat_of : ℕ → ℕ) → ((k : ℕ) → seat_of k ≢ id)
    → LeadsTo (state_of posters seat_of r) [] (state_of posters seat_of q)))
    × tells (slice_index s.words 0) (w, carried_after me.1 a)

-- a table with other views that keeps the rule and the core's state, for posters whose seats are such
abbrev pub StateStays : {B K A : Type 0} {key : B → ℕ → K} (s : State (Option K) (View B K A)) → Ruled key s
    → List (View B K A) → (ℕ → Type 0) → Type 0
StateStays {key = key} s r views IsPosters =
    (q : Ruled key record { words = s.words; homes = s.homes; views = views })
    × ((posters : ℕ) (seat_of : ℕ → ℕ) → ((k : ℕ) → IsPosters (seat_of k))
    → LeadsTo (state_of posters seat_of r) [] (state_of posters seat_of q))
