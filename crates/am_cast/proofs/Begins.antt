-- A new table shows the core's first state.
use Rattle.std.proofs.Common.{◌≡◌, ℕ, zero, suc, ◌*◌, ◌<◌, List, [], ◌∷◌, length, get_or, refl, Option, None, Bool, if◌then◌else◌, arith}
use mathlib.Core.Option.{some}
use lib.ListN.{get_elem?}
use Rattle.atomic_table.specs.Table.{opening}
use Rattle.am_steps.specs.States.{first_state, unaware_poster}
use Rattle.am_cast.specs.declared.limits.TheConstants.{LANES, WORDS}
use Rattle.am_cast.specs.declared.views.View.{View}
use Rattle.am_cast.specs.Rule.{gone, lane_word, first_view, Ruled}
use Rattle.am_cast.specs.Core.{poster_behind, view_or_blank, state_of}
use Rattle.am_cast.proofs.Seats.{begins}

either_way : {X : Type 0} (b : Bool) (x : X) → (if b then x else x) ≡ x
either_way b x = grind arith

module _ {B K A : Type 0} (key : B → ℕ → K) where
  pub begins_as : (words : List ℕ) (slots : List (Option K)) (places : ℕ) → length words ≡ WORDS → get_or words 0 0 ≡ 0 → ((l : ℕ) → l < LANES → get_or words (lane_word l) 0 ≡ gone) → length slots ≡ LANES * places → ((i : ℕ) → i < length slots → get_elem? slots i ≡ some None) → 0 < places
      → (r : Ruled key (opening words slots (first_view {A = A} places))) × ((posters : ℕ) (seat_of : ℕ → ℕ) → state_of posters seat_of r ≡ first_state places LANES posters)
  unfolding begins
  begins_as words slots places wide zero_first all_gone deep vacant pos = (
    begins key words slots places wide zero_first all_gone deep vacant pos,
    grind (arith, either_way),
  )
    where
      first : View B K A
      first = first_view places

      unaware : (j : ℕ) → poster_behind (view_or_blank (get_elem? (first ∷ []) j)) ≡ unaware_poster
      unaware zero = refl
      unaware (suc j) = refl
