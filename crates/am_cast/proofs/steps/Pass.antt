-- A lane gives its key back, and has passed the place.
use Rattle.std.proofs.Common.{[], ◌≡◌, ℕ, ◌+◌, ◌*◌, ◌/◌, ◌%◌, ◌^◌, List, ◌∷◌, get_or, set, sym, refl, ap, ◌∙◌, subst, arith, Option, Some, true, true≢false, length-set, get_or-set_other, get_or-set_same, mod-eq_of_lt}
use mathlib.Core.Option.{none, some}
use lib.ListN.{get_elem?}
use Rattle.atomic_table.specs.Table.{step, Act, gives, stepped, carried_after, Valid, Allows}
use Rattle.atomic_table.proofs.Lists.{set_else}
use Rattle.am_cast.specs.declared.views.Tail.{Tail}
use Rattle.am_cast.specs.declared.views.Account.{Account}
use Rattle.am_cast.specs.declared.views.LaneView.{LaneView}
use Rattle.am_cast.specs.declared.views.View.{View}
use Rattle.am_cast.specs.Core.{poster_behind}
use Rattle.am_cast.specs.Rule.{Homes, slot, lane_word, shown, bit, Ruled}
use Rattle.am_cast.specs.Changes.{with_lane, further}
use Rattle.am_steps.specs.declared.event.Event.TheVariants as does
use Rattle.am_cast.proofs.Events.{behind, Event, pass, AllowsEvent}
use Rattle.am_cast.specs.Steps.{SeatState, Passes}
use Rattle.am_cast.proofs.Slots.{other_lane, prefix_length}
use Rattle.am_cast.proofs.Kept.{same_some, lane_ok, lane_stepped}
use Rattle.am_cast.proofs.Lanes.{comes_home, to_lane}

module _ {B K A : Type 0} (key : B → ℕ → K) where
  pub passes_as : (slots id : ℕ) (me : SeatState B K A) (v : LaneView B A) (x : B) (cs : List (ℕ × Option K)) → me.0.lane ≡ Some v → v.begun ≡ true → v.held ≡ true → get_elem? v.front v.passed ≡ some x → me.1 ≡ (slot v.places v.number v.passed, Some (key x v.number)) ∷ cs
      → AllowsEvent key slots id me (lane_word v.number) (λ n. (n + 2) % 2 ^ 64) (λ _. does.Pass v.number ∷ []) (Passes (step slots (lane_word v.number) 2 0 none) me)
  passes_as slots id me v x cs is begun held next carried s r deep at fits =
      let o = lane_ok key s r id me.0 v at is in let ok = o.4 in let sd = ok.sound in let t : Tail B = r.tail in
      let l : ℕ = v.number in let b : Account K A = r.account l in let p : ℕ = t.places in let k : ℕ = slot p l v.passed in
      let at_word : ℕ = lane_word l in let n : ℕ = get_or s.words at_word 0 in let new : ℕ = (n + 2) % 2 ^ 64 in
      let small = o.0 in let stands = sd.counts.stands in let wide = r.wide in let few = r.few in
      let here = (sd.seen.holds held).0 in let below = (sd.seen.holds held).1 in let long = prefix_length v.front t.log sd.seen.begins in let mid = sd.mid in
      let word : n ≡ 4 * v.passed + 2 * 1 + b.stand / 2 = ok.word ∙ (λ i. shown (here i) (4 * v.passed + 2 * bit (held i) + b.stand / 2)) in
      let odd : n % 2 ≡ b.stand / 2 = omega arith in let whole : new ≡ n + 2 = mod-eq_of_lt (omega arith) in
      let w : LaneView B A = further n v in
      let homes : Homes K = set s.homes k (some (Some (key x l))) in let words : List ℕ = set s.words at_word new in
      let all = comes_home key t b v s.words s.homes l x small r.some_places r.deep ok o.2 held next in
      let has : me.1 ≡ (k, Some (key x l)) ∷ cs = carried ∙ ap (λ (q : ℕ). let c : List (ℕ × Option K) = (slot q l v.passed, Some (key x l)) ∷ cs in c) sd.seen.places in
      subst (λ (c : List (ℕ × Option K)). (u : View B K A) × (a : Act (Option K)) × Valid s.homes c a × ((q : Ruled key (stepped s at_word new id c u a)) × Event B K A (behind r) (does.Pass v.number ∷ []) (behind q) × (poster_behind u ≡ poster_behind me.0)) × Passes (step slots at_word 2 0 none) (me.0, c) n (u, carried_after c a)) (sym has) (
        with_lane w me.0,
        gives,
        tt,
        (let kept = lane_stepped key s r id me.0 v w words homes at is refl refl (length-set s.words at_word new) (length-set s.homes k (some (Some (key x l)))) (get_or-set_other s.words at_word 0 new 0 (λ e. omega arith)) (λ m ne. get_or-set_other s.words at_word (lane_word m) new 0 (λ e. ne (omega arith)))
            (λ m i a ne. set_else s.homes k (slot p m i) (some (Some (key x l))) (other_lane p m l i v.passed a small ne)) record {
              sound = grind (arith, true≢false);
              word = grind (arith, get_or-set_same);
              keys = λ i y a c d e f. all.keys i y a c d e;
              empty = all.empty;
              laid = all.laid;
              away = λ e y f _. all.away e y f;
            } in (kept.0, grind (arith, pass, to_lane), refl)),
        (refl, λ u e. ap (λ (z : LaneView B A). with_lane (further n z) me.0) (same_some v u me.0.lane is e)),
      )

  pub passes : (slots id : ℕ) (me : SeatState B K A) (v : LaneView B A) (x : B) (cs : List (ℕ × Option K)) → me.0.lane ≡ Some v → v.begun ≡ true → v.held ≡ true → get_elem? v.front v.passed ≡ some x → me.1 ≡ (slot v.places v.number v.passed, Some (key x v.number)) ∷ cs
      → Allows (Ruled key) slots id me (lane_word v.number) (λ n. (n + 2) % 2 ^ 64) (Passes (step slots (lane_word v.number) 2 0 none) me)
  passes slots id me v x cs is begun held next carried s r deep at fits = let x = passes_as slots id me v x cs is begun held next carried s r deep at fits in (x.0, x.1, x.2, x.3.0, x.4)
