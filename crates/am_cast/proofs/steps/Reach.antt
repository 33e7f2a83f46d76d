-- The writer takes the slot of the next place.
use Rattle.std.proofs.Common.{[], ◌≡◌, ◌≢◌, ℕ, ◌+◌, ◌<◌, ◌≤◌, List, ◌∷◌, set, sym, refl, ap, subst, arith, Option, None, true}
use mathlib.Core.Option.{none}
use lib.ListN.{get_elem?}
use Rattle.atomic_table.specs.Table.{step, takes, Allows}
use Rattle.atomic_table.proofs.Lists.{set_else}
use Rattle.am_cast.specs.declared.views.Tail.{Tail}
use Rattle.am_cast.specs.declared.views.Account.{Account}
use Rattle.am_cast.specs.declared.views.WriterView.{WriterView}
use Rattle.am_cast.specs.Rule.{live, slot, writer_word, Ruled}
use Rattle.am_cast.specs.Changes.{with_writer, with_account, reaching}
use Rattle.am_cast.proofs.Events.{AllowsEvent}
use Rattle.am_cast.specs.Steps.{SeatState, KnowsOf, SetsAccount, Reaches}
use Rattle.am_cast.proofs.Slots.{apart}
use Rattle.am_cast.proofs.Kept.{writer_ok}
use Rattle.am_cast.proofs.WriterSteps.{none_some, retell, slot_step}

module _ {B K A : Type 0} (key : B → ℕ → K) where
  -- the writer takes the slot of the next place
  pub reaches_as : (slots id : ℕ) (me : SeatState B K A) (l : ℕ) (q : WriterView B K A) (b : Account K A) → KnowsOf me.0 l q b → b.stand ≡ live → b.out ≡ 0 → b.laid ≡ None → b.stop < b.cleared + q.tail.places
      → AllowsEvent key slots id me (writer_word l) (λ n. n) (λ _. []) (Reaches (step slots (writer_word l) 0 0 none) me)
  reaches_as slots id me l q b has alive bare unlaid space₀ s r deep at fits =
      let o = writer_ok key s r id me.0 l q b at has in let ok = o.ok in let sd = ok.sound in let c = sd.counts in let p : ℕ = r.tail.places in
      let space : b.stop < b.cleared + p = subst (λ (t : Tail B). b.stop < b.cleared + t.places) o.tail space₀ in
      let b' : Account K A = reaching b.stop b in let k : ℕ = slot p l b.stop in let clear = c.clear in
      let not_away : b.away ≡ true → ⊥ = (λ e. let a = (c.aways e).0 in omega arith) in
      let beside : (i : ℕ) → b.cleared ≤ i → i < b.cleared + p → i ≢ b.stop → get_elem? (set s.homes k none) (slot p l i) ≡ get_elem? s.homes (slot p l i) = λ i a c ne. set_else s.homes k (slot p l i) none (apart p l b.cleared i b.stop a c clear space ne) in (
        with_writer (with_account l b' q) me.0,
        takes k None,
        ok.empty b.stop (omega arith) space (λ z. omega arith) (λ z. absurd (not_away z)) (λ _. unlaid),
        slot_step key s r id l me q b b' b.stop none at o (grind (arith, none_some)) record { stand = refl; turn = refl; note = refl; start = refl; known = refl; half = refl; away = refl },
        λ l' q' b₁ e has'. retell (λ m d c. SetsAccount m d (reaching c.stop c) me.0 (with_writer (with_account l b' q) me.0) × ((k, None) ∷ me.1 ≡ (slot d.tail.places m c.stop, None) ∷ me.1)) me.0 l l' q q' b b₁ has has' (omega arith)
            (refl, ap (λ (t : Tail B). let c : List (ℕ × Option K) = (slot t.places l b.stop, None) ∷ me.1 in c) (sym o.tail)),
      )

  pub reaches : (slots id : ℕ) (me : SeatState B K A) (l : ℕ) (q : WriterView B K A) (b : Account K A) → KnowsOf me.0 l q b → b.stand ≡ live → b.out ≡ 0 → b.laid ≡ None → b.stop < b.cleared + q.tail.places
      → Allows (Ruled key) slots id me (writer_word l) (λ n. n) (Reaches (step slots (writer_word l) 0 0 none) me)
  reaches slots id me l q b has alive bare unlaid space₀ s r deep at fits = let y = reaches_as slots id me l q b has alive bare unlaid space₀ s r deep at fits in (y.0, y.1, y.2, y.3.0, y.4)
