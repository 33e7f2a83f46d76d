-- The writer gives the slot back with a key in it.
use Rattle.std.proofs.Common.{◌≡◌, ◌≢◌, ℕ, suc, ◌+◌, ◌<◌, ◌≤◌, List, [], ◌∷◌, length, get_or, set, sym, refl, ap, ◌∙◌, subst, arith, Option, Some, None, true}
use mathlib.Core.Option.{none, some}
use mathlib.Core.Option as maybe
use lib.ListN.{get_elem?}
use Rattle.atomic_table.specs.Table.{step, Act, gives, stepped, carried_after, Valid, Allows}
use Rattle.atomic_table.proofs.Lists.{set_here, set_else}
use Rattle.am_cast.specs.declared.views.Tail.{Tail}
use Rattle.am_cast.specs.declared.views.Account.{Account}
use Rattle.am_cast.specs.declared.views.WriterView.{WriterView}
use Rattle.am_cast.specs.declared.views.View.{View}
use Rattle.am_cast.specs.Core.{poster_behind}
use Rattle.am_cast.specs.Rule.{live, slot, writer_word, Ruled}
use Rattle.am_cast.specs.Changes.{with_writer, with_account, laying}
use Rattle.am_cast.proofs.Events.{behind, Event, AllowsEvent}
use Rattle.am_cast.specs.Steps.{SeatState, KnowsOf, Lays}
use Rattle.am_cast.proofs.Slots.{apart, slot_inside}
use Rattle.am_cast.proofs.Kept.{same_some, writer_ok}
use Rattle.am_cast.proofs.WriterSteps.{none_some, retell, slot_step}

module _ {B K A : Type 0} (key : B → ℕ → K) where
  -- the writer gives the slot back with the next key in it
  pub lays_as : (slots id : ℕ) (me : SeatState B K A) (l : ℕ) (q : WriterView B K A) (b : Account K A) (x : K) (cs : List (ℕ × Option K)) → KnowsOf me.0 l q b → b.stand ≡ live → b.out ≡ suc b.stop → b.stop < b.cleared + q.tail.places → me.1 ≡ (slot q.tail.places l b.stop, Some x) ∷ cs
      → AllowsEvent key slots id me (writer_word l) (λ n. n) (λ _. []) (Lays (step slots (writer_word l) 0 0 none) me)
  lays_as slots id me l q b x cs has alive is_out space₀ carried s r deep at fits =
      let o = writer_ok key s r id me.0 l q b at has in let ok = o.ok in let sd = ok.sound in let c = sd.counts in let p : ℕ = r.tail.places in
      let space : b.stop < b.cleared + p = subst (λ (t : Tail B). b.stop < b.cleared + t.places) o.tail space₀ in
      let b' : Account K A = laying x b in let k : ℕ = slot p l b.stop in let clear = c.clear in
      let not_away : b.away ≡ true → ⊥ = (λ e. let a = (c.aways e).0 in omega arith) in
      let h : maybe.Option (Option K) = some (Some x) in
      let beside : (i : ℕ) → b.cleared ≤ i → i < b.cleared + p → i ≢ b.stop → get_elem? (set s.homes k h) (slot p l i) ≡ get_elem? s.homes (slot p l i) = λ i a c ne. set_else s.homes k (slot p l i) h (apart p l b.cleared i b.stop a c clear space ne) in
      let here : get_elem? (set s.homes k h) k ≡ some h = set_here s.homes k h (slot_inside p l b.stop (length s.homes) o.small r.some_places r.deep) in
      let is : me.1 ≡ (k, Some x) ∷ cs = carried ∙ ap (λ (t : Tail B). let c : List (ℕ × Option K) = (slot t.places l b.stop, Some x) ∷ cs in c) o.tail in
      subst (λ (c : List (ℕ × Option K)). (u : View B K A) × (a : Act (Option K)) × Valid s.homes c a × ((p : Ruled key (stepped s (writer_word l) (get_or s.words (writer_word l) 0) id c u a)) × Event B K A (behind r) [] (behind p) × (poster_behind u ≡ poster_behind me.0)) × Lays (step slots (writer_word l) 0 0 none) (me.0, c) (get_or s.words (writer_word l) 0) (u, carried_after c a)) (sym is) (
        with_writer (with_account l b' q) me.0,
        gives,
        tt,
        slot_step key s r id l me q b b' b.stop h at o (grind (arith, none_some, same_some)) record { stand = refl; turn = refl; note = refl; start = refl; known = refl; half = refl; away = refl },
        grind (arith, same_some, retell),
      )
    where
      first_or : List (ℕ × Option K) → Option K
      first_or [] = None
      first_or (c ∷ cs) = c.1

  pub lays : (slots id : ℕ) (me : SeatState B K A) (l : ℕ) (q : WriterView B K A) (b : Account K A) (x : K) (cs : List (ℕ × Option K)) → KnowsOf me.0 l q b → b.stand ≡ live → b.out ≡ suc b.stop → b.stop < b.cleared + q.tail.places → me.1 ≡ (slot q.tail.places l b.stop, Some x) ∷ cs
      → Allows (Ruled key) slots id me (writer_word l) (λ n. n) (Lays (step slots (writer_word l) 0 0 none) me)
  lays slots id me l q b x cs has alive is_out space₀ carried s r deep at fits = let y = lays_as slots id me l q b x cs has alive is_out space₀ carried s r deep at fits in (y.0, y.1, y.2, y.3.0, y.4)
