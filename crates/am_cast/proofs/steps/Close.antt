-- The writer closes the log.
use Rattle.std.proofs.Common.{[], ◌∷◌, false, ◌≡◌, ◌≢◌, ℕ, List, length, set, sym, refl, ap, ◌∙◌, subst, ⊎_elim, arith, Some, true, length-set, get_or-set_other, get_or-set_same}
use mathlib.Core.Option.{none, some}
use lib.ListN.{get_elem?}
use Rattle.atomic_table.specs.Table.{step, keeps, Allows}
use Rattle.atomic_table.proofs.Lists.{at_set}
use Rattle.am_cast.specs.declared.views.Tail.{Tail}
use Rattle.am_cast.specs.declared.views.WriterView.{WriterView}
use Rattle.am_cast.specs.declared.views.View.{View}
use Rattle.am_cast.specs.Rule.{lane_word, tail_word, HasWriter, Ruled}
use Rattle.am_cast.specs.Changes.{with_writer, shut_tail, shut}
use Rattle.am_steps.specs.declared.event.Event.TheVariants as does
use Rattle.am_cast.proofs.Events.{behind, close, AllowsEvent}
use Rattle.am_cast.specs.Steps.{SeatState, Closes}
use Rattle.am_cast.proofs.Kept.{same_some}
use Rattle.am_cast.proofs.Tails.{any_lane, others_writer}

module _ {B K A : Type 0} (key : B → ℕ → K) where
  pub closes_as : (slots id : ℕ) (me : SeatState B K A) (q : WriterView B K A) (new : ℕ) → me.0.writer ≡ Some q → q.tail.closed ≡ false → new ≡ tail_word (length q.tail.log) true → AllowsEvent key slots id me 0 (λ _. new) (λ _. does.Close ∷ []) (λ _. Closes (step slots 0 new 0 none) me new)
  closes_as slots id me q new is open₀ new_is₀ s r deep at fits =
      let mine = r.each_seat id me.0 at in let k = subst (HasWriter r.tail r.seat r.account r.lane r.lane_seat id) is mine.writer in let t : Tail B = r.tail in
      let new_is : new ≡ tail_word (length t.log) true = new_is₀ ∙ ap (λ (t : Tail B). tail_word (length t.log) true) k.0 in
      let t' : Tail B = shut_tail t in let wide = r.wide in let words : List ℕ = set s.words 0 new in
      let w' : View B K A = with_writer (shut q) me.0 in (
        w',
        keeps,
        tt,
        (let kept : Ruled key record { words = words; homes = s.homes; views = set s.views id w' } = record {
          tail = t';
          seat = r.seat;
          account = r.account;
          lane = r.lane;
          lane_seat = r.lane_seat;
          owner = r.owner;
          wide = length-set s.words 0 new ∙ r.wide;
          deep = r.deep;
          some_places = r.some_places;
          few = r.few;
          word = get_or-set_same s.words 0 new 0 (omega arith) ∙ new_is;
          each_lane = λ m a. let ok = r.each_lane m a in let sd = ok.sound in let c = sd.counts in record {
            sound = grind arith;
            word = get_or-set_other s.words 0 (lane_word m) new 0 (λ e. omega arith) ∙ ok.word;
            keys = ok.keys;
            empty = ok.empty;
            laid = ok.laid;
            away = ok.away;
          };
          each_seat = λ j u e. ⊎_elim
              (grind (arith, any_lane))
              (λ (z : (j ≢ id) × (get_elem? s.views j ≡ some u)). let o = r.each_seat j u z.1 in record {
                writer = others_writer key t t' r.seat r.account r.account r.lane r.lane_seat j (λ h. z.0 (h ∙ sym k.3)) u.writer o.writer;
                lane_is = any_lane key t t' r.seat r.account r.account r.lane r.lane_seat j u.lane o.lane_is;
                noted = o.noted;
                counts = o.counts;
                counted = o.counted;
                heard = o.heard;
                whole = λ h. (refl, (o.whole h).1);
                owns = o.owns;
              })
              (at_set s.views id j w' u e);
        } in (kept, close (behind r) (behind kept) (ap (λ (t : Tail B). t.closed) (sym k.0) ∙ open₀) refl (λ _. refl) (λ _. refl), refl)),
        (refl, λ u e. ap (λ (z : WriterView B K A). with_writer (shut z) me.0) (same_some q u me.0.writer is e)),
      )

  pub closes : (slots id : ℕ) (me : SeatState B K A) (q : WriterView B K A) (new : ℕ) → me.0.writer ≡ Some q → q.tail.closed ≡ false → new ≡ tail_word (length q.tail.log) true → Allows (Ruled key) slots id me 0 (λ _. new) (λ _. Closes (step slots 0 new 0 none) me new)
  closes slots id me q new is open₀ new_is₀ s r deep at fits = let y = closes_as slots id me q new is open₀ new_is₀ s r deep at fits in (y.0, y.1, y.2, y.3.0, y.4)
