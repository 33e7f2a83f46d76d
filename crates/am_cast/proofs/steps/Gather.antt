-- The writer takes the slot of a place that was passed.
use Rattle.std.proofs.Common.{[], ◌≡◌, ◌≢◌, ℕ, suc, ◌+◌, ◌<◌, ◌≤◌, ◌∷◌, set, sym, refl, ap, ◌∙◌, arith, Some, true, true≢false}
use mathlib.Core.Option.{none, some, some-injective}
use lib.ListN.{get_elem?}
use Rattle.atomic_table.specs.Table.{step, takes, Allows}
use Rattle.atomic_table.proofs.Lists.{set_else}
use Rattle.am_cast.specs.declared.views.Tail.{Tail}
use Rattle.am_cast.specs.declared.views.Account.{Account}
use Rattle.am_cast.specs.declared.views.WriterView.{WriterView}
use Rattle.am_cast.specs.declared.views.LaneView.{LaneView}
use Rattle.am_cast.specs.Rule.{live, slot, writer_word, Sound, Ruled}
use Rattle.am_cast.specs.Changes.{with_writer, with_account, reaching}
use Rattle.am_cast.proofs.Events.{AllowsEvent}
use Rattle.am_cast.specs.Steps.{SeatState, KnowsOf, SetsAccount, Gathers}
use Rattle.am_cast.proofs.Slots.{apart, at_below, prefix_length}
use Rattle.am_cast.proofs.Kept.{writer_ok}
use Rattle.am_cast.proofs.Lanes.{cut_of}
use Rattle.am_cast.proofs.WriterSteps.{retell, slot_step}

module _ {B K A : Type 0} (key : B → ℕ → K) where
  -- the place that the writer empties next: no key of it is out
  pub record Gone (t : Tail B) (b : Account K A) (v : LaneView B A) : Type 0 where
    pub inside : b.cleared < b.stop
    pub not_held : v.held ≡ true → b.cleared ≢ v.passed

  pub gone_by : (t : Tail B) (b : Account K A) (v : LaneView B A) (l : ℕ) → Sound t b v l → (b.stand ≡ live → b.cleared < b.known) → (b.stand ≢ live → b.cleared < b.stop) → Gone t b v
  gone_by t b v l sd low₁ low₂ = grind (arith, prefix_length, true≢false, cut_of)

  -- the writer takes the slot of a place that the lane has passed
  pub gathers_as : (slots id : ℕ) (me : SeatState B K A) (l : ℕ) (q : WriterView B K A) (b : Account K A) → KnowsOf me.0 l q b → b.out ≡ 0 → (b.stand ≡ live → b.cleared < b.known) → (b.stand ≢ live → b.cleared < b.stop)
      → AllowsEvent key slots id me (writer_word l) (λ n. n) (λ _. []) (Gathers key (step slots (writer_word l) 0 0 none) me)
  gathers_as slots id me l q b has bare low₁ low₂ s r deep at fits =
      let o = writer_ok key s r id me.0 l q b at has in let ok = o.ok in let sd = ok.sound in let c = sd.counts in let p : ℕ = r.tail.places in
      let g = gone_by r.tail b (r.lane l) l sd low₁ low₂ in let inside = g.inside in let stops = c.stops in let room = c.room in let clear = c.clear in
      let x = at_below r.tail.log b.cleared (omega arith) in
      let b' : Account K A = reaching b.cleared b in let k : ℕ = slot p l b.cleared in
      let beside : (i : ℕ) → b.cleared ≤ i → i < b.cleared + p → i ≢ b.cleared → get_elem? (set s.homes k none) (slot p l i) ≡ get_elem? s.homes (slot p l i) = λ i a d ne. set_else s.homes k (slot p l i) none (apart p l b.cleared i b.cleared a d (omega arith) (omega arith) ne) in (
        with_writer (with_account l b' q) me.0,
        takes k (Some (key x.0 l)),
        ok.keys b.cleared x.0 (omega arith) inside x.1 (λ z. omega arith) g.not_held,
        slot_step key s r id l me q b b' b.cleared none at o (λ ws same. record {
          sound = grind arith;
          word = same ∙ ok.word;
          keys = λ i y a d e f h. beside i a (omega arith) (λ z. f (ap suc (sym z))) ∙ ok.keys i y a d e (λ z. omega arith) h;
          empty = λ i a d e f h. beside i (omega arith) d (λ z. omega arith) ∙ ok.empty i a d (λ z. omega arith) f h;
          laid = λ y e. let f = (c.lays y e).1 in beside b.stop clear f (λ z. omega arith) ∙ ok.laid y e;
          away = λ e y f h. let a = c.aways e in let a₁ = a.1 in let a₂ = a.2 in set_else s.homes k (slot p l b.known) none (apart p l b.known b.known b.cleared (omega arith) (omega arith) (omega arith) (omega arith) (λ z. omega arith)) ∙ ok.away e y f h;
        }) record { stand = refl; turn = refl; note = refl; start = refl; known = refl; half = refl; away = refl },
        λ l' q' b₁ y e has' f. retell (λ m d c. (y : B) → get_elem? d.tail.log c.cleared ≡ some y → SetsAccount m d (reaching c.cleared c) me.0 (with_writer (with_account l b' q) me.0) × ((k, Some (key x.0 l)) ∷ me.1 ≡ (slot d.tail.places m c.cleared, Some (key y m)) ∷ me.1)) me.0 l l' q q' b b₁ has has' (omega arith)
            (grind (arith, some-injective)) y f,
      )

  pub gathers : (slots id : ℕ) (me : SeatState B K A) (l : ℕ) (q : WriterView B K A) (b : Account K A) → KnowsOf me.0 l q b → b.out ≡ 0 → (b.stand ≡ live → b.cleared < b.known) → (b.stand ≢ live → b.cleared < b.stop)
      → Allows (Ruled key) slots id me (writer_word l) (λ n. n) (Gathers key (step slots (writer_word l) 0 0 none) me)
  gathers slots id me l q b has bare low₁ low₂ s r deep at fits = let y = gathers_as slots id me l q b has bare low₁ low₂ s r deep at fits in (y.0, y.1, y.2, y.3.0, y.4)
