-- The writer gives the slot back empty.
use Rattle.std.proofs.Common.{[], ◌≡◌, ◌≢◌, ℕ, suc, ◌+◌, ◌<◌, ◌≤◌, List, ◌∷◌, length, get_or, set, sym, refl, ap, ◌∙◌, subst, arith, Option, None}
use mathlib.Core.Logic.{dite}
use mathlib.Core.Option.{none, some}
use mathlib.Core.Option as maybe
use native.Mathlib.Decide.{ℕ_discrete}
use lib.ListN.{get_elem?}
use Rattle.atomic_table.specs.Table.{step, Act, gives, stepped, carried_after, Valid, Allows}
use Rattle.atomic_table.proofs.Lists.{set_here, set_else}
use Rattle.am_cast.specs.declared.views.Tail.{Tail}
use Rattle.am_cast.specs.declared.views.Account.{Account}
use Rattle.am_cast.specs.declared.views.WriterView.{WriterView}
use Rattle.am_cast.specs.declared.views.View.{View}
use Rattle.am_cast.specs.Core.{poster_behind}
use Rattle.am_cast.specs.Rule.{live, slot, writer_word, Ruled}
use Rattle.am_cast.specs.Changes.{with_writer, with_account, clearing}
use Rattle.am_cast.proofs.Events.{behind, Event, AllowsEvent}
use Rattle.am_cast.specs.Steps.{SeatState, KnowsOf, SetsAccount, Clears}
use Rattle.am_cast.proofs.Slots.{apart, one_turn_on, slot_inside}
use Rattle.am_cast.proofs.Kept.{writer_ok}
use Rattle.am_cast.proofs.WriterSteps.{retell, slot_step}
use Rattle.am_cast.proofs.steps.Gather.{gone_by}

module _ {B K A : Type 0} (key : B → ℕ → K) where
  -- and gives it back empty
  pub clears_as : (slots id : ℕ) (me : SeatState B K A) (l : ℕ) (q : WriterView B K A) (b : Account K A) (cs : List (ℕ × Option K)) → KnowsOf me.0 l q b → b.out ≡ suc b.cleared → (b.stand ≡ live → b.cleared < b.known) → (b.stand ≢ live → b.cleared < b.stop) → me.1 ≡ (slot q.tail.places l b.cleared, None) ∷ cs
      → AllowsEvent key slots id me (writer_word l) (λ n. n) (λ _. []) (Clears (step slots (writer_word l) 0 0 none) me)
  clears_as slots id me l q b cs has is_out low₁ low₂ carried s r deep at fits =
      let o = writer_ok key s r id me.0 l q b at has in let ok = o.ok in let sd = ok.sound in let c = sd.counts in let p : ℕ = r.tail.places in
      let g = gone_by key r.tail b (r.lane l) l sd low₁ low₂ in let inside = g.inside in let stops = c.stops in let room = c.room in let clear = c.clear in
      let b' : Account K A = clearing b in let k : ℕ = slot p l b.cleared in
      let h : maybe.Option (Option K) = some None in
      let beside : (i : ℕ) → b.cleared ≤ i → i < b.cleared + p → i ≢ b.cleared → get_elem? (set s.homes k h) (slot p l i) ≡ get_elem? s.homes (slot p l i) = λ i a d ne. set_else s.homes k (slot p l i) h (apart p l b.cleared i b.cleared a d (omega arith) (omega arith) ne) in
      let here : get_elem? (set s.homes k h) k ≡ some h = set_here s.homes k h (slot_inside p l b.cleared (length s.homes) o.small r.some_places r.deep) in
      let is : me.1 ≡ (k, None) ∷ cs = carried ∙ ap (λ (t : Tail B). let c : List (ℕ × Option K) = (slot t.places l b.cleared, None) ∷ cs in c) o.tail in
      subst (λ (c : List (ℕ × Option K)). (u : View B K A) × (a : Act (Option K)) × Valid s.homes c a × ((p : Ruled key (stepped s (writer_word l) (get_or s.words (writer_word l) 0) id c u a)) × Event B K A (behind r) [] (behind p) × (poster_behind u ≡ poster_behind me.0)) × Clears (step slots (writer_word l) 0 0 none) (me.0, c) (get_or s.words (writer_word l) 0) (u, carried_after c a)) (sym is) (
        with_writer (with_account l b' q) me.0,
        gives,
        tt,
        slot_step key s r id l me q b b' b.cleared h at o (λ ws same. record {
          sound = grind arith;
          word = same ∙ ok.word;
          keys = λ i y a d e f z. beside i (omega arith) (omega arith) (λ z. omega arith) ∙ ok.keys i y (omega arith) d e (λ z. omega arith) z;
          empty = λ i a d e f z. dite (ℕ_discrete i (b.cleared + p))
              (λ last. ap (λ (j : ℕ). get_elem? (set s.homes k h) (slot p l j)) last ∙ ap (get_elem? (set s.homes k h)) (one_turn_on p l b.cleared) ∙ here)
              (λ ne. beside i (omega arith) (omega arith) (λ z. omega arith) ∙ ok.empty i a (omega arith) (λ z. omega arith) f z);
          laid = λ y e. let f = (c.lays y e).1 in beside b.stop clear f (λ z. omega arith) ∙ ok.laid y e;
          away = λ e y f z. let a = c.aways e in let a₁ = a.1 in let a₂ = a.2 in set_else s.homes k (slot p l b.known) h (apart p l b.known b.known b.cleared (omega arith) (omega arith) (omega arith) (omega arith) (λ z. omega arith)) ∙ ok.away e y f z;
        }) record { stand = refl; turn = refl; note = refl; start = refl; known = refl; half = refl; away = refl },
        (refl, λ l' q' b₁ e has'. retell (λ m d c. SetsAccount m d (clearing c) me.0 (with_writer (with_account l b' q) me.0)) me.0 l l' q q' b b₁ has has' (omega arith) refl),
      )

  pub clears : (slots id : ℕ) (me : SeatState B K A) (l : ℕ) (q : WriterView B K A) (b : Account K A) (cs : List (ℕ × Option K)) → KnowsOf me.0 l q b → b.out ≡ suc b.cleared → (b.stand ≡ live → b.cleared < b.known) → (b.stand ≢ live → b.cleared < b.stop) → me.1 ≡ (slot q.tail.places l b.cleared, None) ∷ cs
      → Allows (Ruled key) slots id me (writer_word l) (λ n. n) (Clears (step slots (writer_word l) 0 0 none) me)
  clears slots id me l q b cs has is_out low₁ low₂ carried s r deep at fits = let y = clears_as slots id me l q b cs has is_out low₁ low₂ carried s r deep at fits in (y.0, y.1, y.2, y.3.0, y.4)
