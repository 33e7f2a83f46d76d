-- A seat that is cut in two, or takes in another's, leaves the core's state, and so does a look at what it knows.
use Rattle.std.proofs.Common.{◌≡◌, ◌≢◌, ℕ, zero, suc, List, [], ◌∷◌, ◌++◌, length, set, refl, ap, ◌∙◌, Some, arith}
use Rattle.std.specs.Prelude.{⊤}
use mathlib.Core.Logic.{dite}
use mathlib.Core.Option as maybe
use mathlib.Core.Option.{none, some}
use native.Mathlib.Decide.{ℕ_discrete}
use lib.ListN.{get_elem?}
use lib.Seq.{take-append-le}
use Rattle.atomic_table.specs.Table.{step}
use Rattle.atomic_table.proofs.Lists.{set_here, set_else, set_again}
use Rattle.am_steps.specs.declared.poster.Poster.{Poster}
use Rattle.am_cast.specs.declared.views.LaneView.{LaneView}
use Rattle.am_cast.specs.declared.views.View.{View}
use Rattle.am_cast.specs.Rule.{blank, Ruled}
use Rattle.am_cast.specs.Changes.{copied, without_lane, only_lane, without_own, only_own, both_of}
use Rattle.am_cast.specs.Core.{poster_of, poster_behind, view_or_blank, AllowsAs, StateStays}
use Rattle.am_cast.specs.Steps.{SeatState, Weighs}
use Rattle.am_cast.proofs.Kept.{St}
use Rattle.am_cast.proofs.Slots.{at_length}
use Rattle.am_cast.proofs.Seats.{splits_to, tells, deals, hands, hears}
use Rattle.am_cast.proofs.Notes.{same_posters}
use Rattle.am_cast.proofs.steps.Weigh.{weighs}

module _ {B K A : Type 0} where
  abbrev poster_at : List (View B K A) → ℕ → Poster B
  poster_at views j = poster_behind (view_or_blank (get_elem? views j))

  one_more : (views : List (View B K A)) (right : View B K A) (j : ℕ) → poster_behind right ≡ poster_of 0 [] → poster_at (views ++ right ∷ []) j ≡ poster_at views j
  one_more [] right zero e = e
  one_more [] right (suc j) e = refl
  one_more (v ∷ vs) right zero e = refl
  one_more (v ∷ vs) right (suc j) e = one_more vs right j e

  -- the posters' seats where a seat was cut in two
  cut_in_two : (views : List (View B K A)) (id : ℕ) (v left right : View B K A) (j : ℕ) → get_elem? views id ≡ some v → (j ≡ id → poster_behind left ≡ poster_behind v) → poster_behind right ≡ poster_of 0 [] → poster_at (set views id left ++ right ∷ []) j ≡ poster_at views j
  cut_in_two views id v left right j at same new = one_more (set views id left) right j new ∙ dite (ℕ_discrete j id)
      (grind (arith, set_here, at_length))
      (λ ne. ap (λ (o : maybe.Option (View B K A)). poster_behind (view_or_blank o)) (set_else views id j left ne))

module _ {B K A : Type 0} (key : B → ℕ → K) where
  pub tells_as : (s : St B K A) (r : Ruled key s) (id : ℕ) (v : View B K A) → get_elem? s.views id ≡ some v → StateStays s r (set s.views id v ++ copied v ∷ []) (λ _. ⊤)
  unfolding tells splits_to
  tells_as s r id v at = (tells key id v s r at, grind (arith, same_posters, cut_in_two))

  pub deals_as : (s : St B K A) (r : Ruled key s) (id : ℕ) (w : View B K A) (v : LaneView B A) → w.lane ≡ Some v → get_elem? s.views id ≡ some w → StateStays s r (set s.views id (without_lane w) ++ only_lane w ∷ []) (λ _. ⊤)
  unfolding deals splits_to
  deals_as s r id w v is at = (deals key id w v is s r at, grind (arith, same_posters, cut_in_two))

  pub hands_as : (s : St B K A) (r : Ruled key s) (id : ℕ) (w : View B K A) → get_elem? s.views id ≡ some w → StateStays s r (set s.views id (without_own w) ++ only_own w ∷ []) (λ seat. seat ≢ id)
  unfolding hands splits_to
  hands_as s r id w at = (hands key id w s r at, grind (arith, same_posters, cut_in_two))

  pub hears_as : (s : St B K A) (r : Ruled key s) (id other : ℕ) (v w : View B K A) → get_elem? s.views id ≡ some v → other ≢ id → get_elem? s.views other ≡ some w → StateStays s r (set (set s.views id (both_of v w)) other blank) (λ seat. seat ≢ other)
  unfolding hears
  hears_as s r id other v w at apart there =
      let b : View B K A = both_of v w in let mine = r.each_seat id v at in
      let counted : poster_behind b ≡ poster_behind v = ap (poster_of (length v.noted)) (take-append-le v.counted v.own w.own mine.counts) in
      let there' : get_elem? (set s.views id b) other ≡ some w = set_else s.views id other b apart ∙ there in (
        hears key id other v w s r at apart there',
        λ posters seat_of fits. same_posters posters r.tail r.account r.lane (λ k. poster_at s.views (seat_of k)) (λ k. poster_at (set (set s.views id b) other blank) (seat_of k))
            (grind (arith, set_else, set_here, at_length)),
      )

  pub weighs_as : (slots id : ℕ) (me : SeatState B K A) → AllowsAs key slots id me 0 (λ n. n) (λ _. []) (Weighs (step slots 0 0 0 none) me)
  unfolding weighs
  weighs_as slots id me s r deep at fits = let x = weighs key slots id me s r deep at fits in
      (x.0, x.1, x.2, (x.3, grind (arith, same_posters, set_again)), x.4)
