-- A seat notes how long the log is.
use Rattle.std.proofs.Common.{◌∙◌, ap, ◌≡◌, ◌≢◌, arith, length, ℕ, List, get_or, set, sym, refl, subst, ⊎_elim}
use mathlib.Core.Option.{none, some}
use lib.ListN.{get_elem?}
use lib.Seq.{set-get_or}
use Rattle.atomic_table.specs.Table.{step, keeps, Allows}
use Rattle.atomic_table.proofs.Lists.{at_set}
use Rattle.am_cast.specs.declared.views.Tail.{Tail}
use Rattle.am_cast.specs.declared.views.View.{View}
use Rattle.am_cast.specs.Rule.{SeatOk, Ruled}
use Rattle.am_cast.specs.Steps.{SeatState, Notes}
use Rattle.am_cast.proofs.Kept.{stays}
use Rattle.am_cast.proofs.Slots.{at_length, prefix_self}

module _ {B K A : Type 0} (key : B → ℕ → K) where
  -- a seat notes the log
  unfoldable pub notes : (slots id : ℕ) (me : SeatState B K A) → Allows (Ruled key) slots id me 0 (λ n. n) (Notes (step slots 0 0 0 none) me)
  notes slots id me s r deep at fits =
      let mine = r.each_seat id me.0 at in let t : Tail B = r.tail in let words : List ℕ = set s.words 0 (get_or s.words 0 0) in let same : words ≡ s.words = set-get_or s.words 0 0 in
      let w' : View B K A = record me.0 { noted = t.log; counted = length me.0.own } in (
        w',
        keeps,
        tt,
        record {
          tail = r.tail;
          seat = r.seat;
          account = r.account;
          lane = r.lane;
          lane_seat = r.lane_seat;
          owner = r.owner;
          wide = ap length same ∙ r.wide;
          deep = r.deep;
          some_places = r.some_places;
          few = r.few;
          word = ap (λ (ws : List ℕ). get_or ws 0 0) same ∙ r.word;
          each_lane = grind (arith, stays);
          each_seat = λ j u e. ⊎_elim
              (λ (z : (j ≡ id) × (w' ≡ u)). subst (λ (z : ℕ × View B K A). SeatOk r.tail r.seat r.account r.lane r.lane_seat r.owner z.0 z.1) (λ i. (sym z.0 i, z.1 i)) record { writer = mine.writer; lane_is = mine.lane_is; noted = prefix_self t.log; counts = omega arith; counted = λ k o e _. at_length t.log o.place o.batch (mine.owns.each k o e).0; heard = mine.heard; whole = mine.whole; owns = mine.owns })
              (λ (z : (j ≢ id) × (get_elem? s.views j ≡ some u)). r.each_seat j u z.1)
              (at_set s.views id j w' u e);
        },
        (refl, (t.log, t.closed, mine.noted, mine.heard, (λ k o e. (mine.owns.each k o e).0), r.word, r.few, refl)),
      )
