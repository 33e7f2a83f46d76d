-- A seat compares what it knows.
use Rattle.std.proofs.Common.{arith, ◌≡◌, ℕ, List, get_or, set, length, sym, refl, ap, ◌∙◌}
use mathlib.Core.Option.{none}
use lib.ListN.{get_elem?}
use lib.Seq.{set-get_or}
use Rattle.atomic_table.specs.Table.{step, keeps, Allows}
use Rattle.atomic_table.proofs.Lists.{set_again}
use Rattle.am_cast.specs.declared.views.Tail.{Tail}
use Rattle.am_cast.specs.declared.views.View.{View}
use Rattle.am_cast.specs.Rule.{lane_word, Ruled}
use Rattle.am_cast.specs.Steps.{SeatState, Weighs}
use Rattle.am_cast.proofs.Slots.{prefix_back}
use Rattle.am_cast.proofs.Kept.{writer_ok, lane_ok, stays}

module _ {B K A : Type 0} (key : B → ℕ → K) where
  -- a load that changes nothing, and tells what the parts of a view say of each other
  unfoldable pub weighs : (slots id : ℕ) (me : SeatState B K A) → Allows (Ruled key) slots id me 0 (λ n. n) (Weighs (step slots 0 0 0 none) me)
  weighs slots id me s r deep at fits =
      let mine = r.each_seat id me.0 at in let t : Tail B = r.tail in let words : List ℕ = set s.words 0 (get_or s.words 0 0) in let same : words ≡ s.words = set-get_or s.words 0 0 in
      let views : set s.views id me.0 ≡ s.views = set_again s.views id me.0 at in (
        me.0,
        keeps,
        tt,
        record {
          tail = r.tail;
          seat = r.seat;
          account = r.account;
          lane = r.lane;
          lane_seat = r.lane_seat;
          owner = r.owner;
          wide = ap length same ∙ r.wide;
          deep = r.deep;
          some_places = r.some_places;
          few = r.few;
          word = ap (λ (ws : List ℕ). get_or ws 0 0) same ∙ r.word;
          each_lane = λ m a. stays key r.tail (r.account m) (r.lane m) s.words words s.homes s.homes m (ap (λ (ws : List ℕ). get_or ws (lane_word m) 0) same) (λ i. refl) (r.each_lane m a);
          each_seat = λ j u e. r.each_seat j u (ap (λ (vs : List (View B K A)). get_elem? vs j) (sym views) ∙ e);
        },
        (
          refl,
          refl,
          record {
            once = mine.owns.once;
            heard = λ k o e h. prefix_back me.0.heard t.log o.place o.batch mine.heard h (mine.owns.each k o e).0;
            writer = grind arith;
            lane = grind (arith, writer_ok, lane_ok);
          },
        ),
      )
