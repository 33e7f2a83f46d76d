-- Tables that steps make of a new one, one after the other. This project's own.
use Rattle.std.specs.Prelude.{◌≡◌, ◌≢◌, ℕ, ◌<◌, List, [], ◌++◌, drop, length, slice_index, Option, ⊤}
use mathlib.Core.Option.{some}
use lib.ListN.{get_elem?}
use Rattle.atomic_table.specs.Table.{State, opening, stepped}
use Rattle.am_steps.specs.declared.event.Event as event
use Rattle.am_steps.specs.States.{first_state}
use Rattle.am_steps.specs.Runs.{LeadsTo}
use Rattle.am_cast.specs.declared.limits.TheConstants.{LANES}
use Rattle.am_cast.specs.declared.views.View.{View}
use Rattle.am_cast.specs.Rule.{word_end, first_view, Ruled}
use Rattle.am_cast.specs.Steps.{SeatState}
use Rattle.am_cast.specs.Core.{state_of, note_events, AllowsAs, AllowsNote, StateStays}

module _ {B K A : Type 0} (key : B → ℕ → K) (places posters : ℕ) (seat_of : ℕ → ℕ) where
  -- the tables that steps make of a new one, with the events that they were to the core. Each step is one
  -- that `Laws` allows the seat in the table before it, by what the seat knows and whichever word it finds
  pub data ComesTo : List (event.Event B) → (s : State (Option K) (View B K A)) → Ruled key s → Type 0 where
    -- a table as it is made
    begins : (words : List ℕ) (slots : List (Option K))
        → (r : Ruled key (opening words slots (first_view places)))
        → state_of posters seat_of r ≡ first_state places LANES posters
        → ComesTo [] (opening words slots (first_view places)) r
    -- an atomic step of the seat `id`, which is these events by the word that it finds
    steps : (es : List (event.Event B)) (s : State (Option K) (View B K A)) (r : Ruled key s) → ComesTo es s r
        → (slots id : ℕ) (me : SeatState B K A) (i : ℕ) (f : ℕ → ℕ) (found : ℕ → List (event.Event B))
        → (allowed : AllowsAs key slots id me i f found (λ _ _. ⊤))
        → (deep : length s.homes ≡ slots) (at : get_elem? s.views id ≡ some me.0)
        → (fits : slice_index s.words i < word_end)
        → ComesTo (es ++ found (slice_index s.words i)) (stepped s i (f (slice_index s.words i)) id me.1
        (allowed s r deep at fits).0 (allowed s r deep at fits).1) (allowed s r deep at fits).3.0
    -- a poster notes the log
    notes : (es : List (event.Event B)) (s : State (Option K) (View B K A)) (r : Ruled key s) → ComesTo es s r
        → (slots id : ℕ) (me : SeatState B K A) (allowed : AllowsNote key slots id me (λ _ _. ⊤))
        → (deep : length s.homes ≡ slots) (at : get_elem? s.views id ≡ some me.0)
        → (fits : slice_index s.words 0 < word_end)
        → (p : ℕ) → p < posters → seat_of p ≡ id → ((k : ℕ) → k ≢ p → seat_of k ≢ id)
        → ComesTo (es ++ note_events p (drop me.0.counted me.0.own))
        (stepped s 0 (slice_index s.words 0) id me.1
        (allowed s r deep at fits).0 (allowed s r deep at fits).1) (allowed s r deep at fits).3.0
    -- a seat that is no poster's does
    hears : (es : List (event.Event B)) (s : State (Option K) (View B K A)) (r : Ruled key s) → ComesTo es s r
        → (slots id : ℕ) (me : SeatState B K A) (allowed : AllowsNote key slots id me (λ _ _. ⊤))
        → (deep : length s.homes ≡ slots) (at : get_elem? s.views id ≡ some me.0)
        → (fits : slice_index s.words 0 < word_end) → ((k : ℕ) → seat_of k ≢ id)
        → ComesTo es (stepped s 0 (slice_index s.words 0) id me.1
        (allowed s r deep at fits).0 (allowed s r deep at fits).1) (allowed s r deep at fits).3.0
    -- a seat is cut in two or takes in another, which is nothing to the posters
    seats : (es : List (event.Event B)) (s : State (Option K) (View B K A)) (r : Ruled key s) → ComesTo es s r
        → (views : List (View B K A)) (stays : StateStays s r views (λ seat. (k : ℕ) × (seat_of k ≡ seat)))
        → ComesTo es record { words = s.words; homes = s.homes; views = views } stays.0

-- any sequence of allowed steps from a new table is a run of the core from its first state, with all lanes
abbrev pub RunsOfTheCore : (B K A : Type 0) → (B → ℕ → K) → Type 0
RunsOfTheCore B K A key = (places posters : ℕ) (seat_of : ℕ → ℕ) (es : List (event.Event B))
    (s : State (Option K) (View B K A)) (r : Ruled key s) → ComesTo key places posters seat_of es s r
    → LeadsTo (first_state places LANES posters) es (state_of posters seat_of r)
