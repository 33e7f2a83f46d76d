-- The writer cuts a lane, or finds its word.
use Rattle.std.proofs.Common.{◌≡◌, ◌≢◌, ℕ, ◌+◌, ◌*◌, ◌/◌, ◌%◌, List, get_or, set, sym, refl, ap, ◌∙◌, arith, Option, None, Bool, true, false, true≢false, eqb, length-set, get_or-set_other, get_or-set_same}
use mathlib.Core.Option.{none}
use prog.Atomic.{either}
use Rattle.atomic_table.specs.Table.{step, Act, keeps, stepped, carried_after, Valid, Allows}
use Rattle.atomic_table.proofs.Lists.{exchanged}
use Rattle.am_cast.specs.declared.views.Tail.{Tail}
use Rattle.am_cast.specs.declared.views.Account.{Account}
use Rattle.am_cast.specs.declared.views.WriterView.{WriterView}
use Rattle.am_cast.specs.declared.views.LaneView.{LaneView}
use Rattle.am_cast.specs.declared.views.View.{View}
use Rattle.am_cast.specs.Core.{poster_behind, cut_events}
use Rattle.am_cast.specs.Rule.{live, cut, gone, lane_word, shown, bit, LaneOk, Ruled}
use Rattle.am_cast.specs.Changes.{with_writer, with_account, severed}
use Rattle.am_cast.proofs.Events.{behind, Event, sever, moved, AllowsEvent}
use Rattle.am_cast.specs.Steps.{SeatState, KnowsOf, SetsAccount, Finds, Cuts}
use Rattle.am_cast.proofs.Slots.{bit_small}
use Rattle.am_cast.proofs.Kept.{writer_ok, writer_stepped}
use Rattle.am_cast.proofs.WriterSteps.{here_of, none_some, retell, to_account}
use Rattle.am_cast.proofs.steps.Harvest.{finds}

module _ {B K A : Type 0} (key : B → ℕ → K) where
  -- the lane is cut, or its word moved
  pub cuts_as : (slots id : ℕ) (me : SeatState B K A) (l : ℕ) (q : WriterView B K A) (b : Account K A) (old new : ℕ) → KnowsOf me.0 l q b → b.stand ≡ live → b.cleared ≡ b.known → b.stop ≡ b.known + q.tail.places → b.out ≡ 0 → b.laid ≡ None → old ≢ gone → old / 4 ≡ b.known → old / 2 ≡ b.half → new ≡ old + 1
      → AllowsEvent key slots id me (lane_word l) (λ n. either (eqb n old) new n) (cut_events l old) (Cuts (step slots (lane_word l) old new none) me)
  cuts_as slots id me l q b old new has alive all_clear full₀ bare unlaid not_gone old_is half_is new_is s r deep at fits =
      let o = writer_ok key s r id me.0 l q b at has in let ok = o.ok in let sd = ok.sound in let v : LaneView B A = r.lane l in let p : ℕ = r.tail.places in
      let full : b.stop ≡ b.known + p = full₀ ∙ ap (λ (t : Tail B). b.known + t.places) o.tail in
      let n : ℕ = get_or s.words (lane_word l) 0 in let at_word : ℕ = lane_word l in let small = o.small in let wide = r.wide in
      let P : ℕ → WriterView B K A → Account K A → View B K A → Type 0 = λ l q b w. (n ≡ old → SetsAccount l q (severed (n / 2 % 2) b) me.0 w) × (n ≢ old → Finds l q b n me.0 w) in
      let F : ℕ → Type 0 = λ m. (w : View B K A) × (a : Act (Option K)) × Valid s.homes me.1 a × ((q : Ruled key (stepped s at_word m id me.1 w a)) × Event B K A (behind r) (cut_events l old n) (behind q) × (poster_behind w ≡ poster_behind me.0)) × Cuts (step slots at_word old new none) me n (w, carried_after me.1 a) in
      exchanged n old new F
      (λ (hit : n ≡ old).
      let h = here_of v.here n (4 * v.passed + 2 * bit v.held + b.stand / 2) ok.word (λ z. not_gone (sym hit ∙ z)) in let h₁ = h.1 in
      let counts = sd.counts in let low = counts.low in let pos = r.some_places in let stops = counts.stops in let mid = sd.mid in
      let words : List ℕ = set s.words at_word new in
      let one : (b' : Account K A) → severed (n / 2 % 2) b ≡ b' → n / 2 % 2 ≡ bit v.held → LaneOk key r.tail b' v words s.homes l → F new =
      λ b' e bit_of here. let kept = writer_stepped key s r id me.0 l q b b' words s.homes at o (length-set s.words at_word new) refl (get_or-set_other s.words at_word 0 new 0 (λ e. omega arith)) (λ m ne. get_or-set_other s.words at_word (lane_word m) new 0 (λ e. ne (omega arith))) (λ m i a c. refl) here in (
        with_writer (with_account l b' q) me.0,
        keeps,
        tt,
        (
          kept.0,
          grind (arith, sever, bit_small, to_account),
          refl,
        ),
        grind (arith, retell),
      ) in
      let word_now : (h : Bool) → v.held ≡ h → new ≡ 4 * v.passed + 2 * bit h + 1 → get_or words at_word 0 ≡ shown v.here (4 * v.passed + 2 * bit v.held + 1) = grind (arith, get_or-set_same) in
      held_or_not v.held
      (λ (e : v.held ≡ true).
      let is : n ≡ 4 * v.passed + 2 * 1 + b.stand / 2 = h.1 ∙ (λ i. 4 * v.passed + 2 * bit (e i) + b.stand / 2) in
      let b' : Account K A = record b { stand = cut; away = true; cleared = b.cleared + 1 } in
      let bit_is : n / 2 % 2 ≡ 1 = omega arith in
      let same : severed (n / 2 % 2) b ≡ b' = λ i. severed (bit_is i) b in
      one b' same (bit_is ∙ ap bit (sym e)) record {
        sound = grind (arith, none_some);
        word = word_now true e (omega arith);
        keys = λ i x a c d f g. ok.keys i x (omega arith) c d f g;
        empty = λ i a c d f g. absurd (f refl (omega arith));
        laid = λ k z. absurd (none_some k (sym unlaid ∙ z));
        away = λ _ x f z. absurd (true≢false (sym e ∙ z));
      })
      (λ (e : v.held ≡ false).
      let is : n ≡ 4 * v.passed + 2 * 0 + b.stand / 2 = h.1 ∙ (λ i. 4 * v.passed + 2 * bit (e i) + b.stand / 2) in
      let b' : Account K A = record b { stand = cut; away = false; cleared = b.cleared + 0 } in
      let bit_is : n / 2 % 2 ≡ 0 = omega arith in
      let same : severed (n / 2 % 2) b ≡ b' = λ i. severed (bit_is i) b in
      one b' same (bit_is ∙ ap bit (sym e)) record {
        sound = grind (arith, none_some, true≢false);
        word = word_now false e (omega arith);
        keys = λ i x a c d f g. ok.keys i x (omega arith) c d f g;
        empty = λ i a c d f g. absurd (omega arith);
        laid = λ k z. absurd (none_some k (sym unlaid ∙ z));
        away = λ z. absurd (true≢false (sym z));
      }))
      (λ (miss : n ≢ old).
      let f = finds key s r id l me q b at o alive unlaid in
      (f.view, keeps, tt, (f.kept, moved (behind r) (behind f.kept) l n old miss f.event, f.poster), (refl, λ l' q' b' e has'. retell (λ l q b. P l q b f.view) me.0 l l' q q' b b' has has' (omega arith) ((λ h. absurd (miss h)), (λ _. f.tells)))))
    where
      held_or_not : (h : Bool) {X : Type 0} → (h ≡ true → X) → (h ≡ false → X) → X
      held_or_not true f g = f refl
      held_or_not false f g = g refl

  pub cuts : (slots id : ℕ) (me : SeatState B K A) (l : ℕ) (q : WriterView B K A) (b : Account K A) (old new : ℕ) → KnowsOf me.0 l q b → b.stand ≡ live → b.cleared ≡ b.known → b.stop ≡ b.known + q.tail.places → b.out ≡ 0 → b.laid ≡ None → old ≢ gone → old / 4 ≡ b.known → old / 2 ≡ b.half → new ≡ old + 1
      → Allows (Ruled key) slots id me (lane_word l) (λ n. either (eqb n old) new n) (Cuts (step slots (lane_word l) old new none) me)
  cuts slots id me l q b old new has alive all_clear full₀ bare unlaid not_gone old_is half_is new_is s r deep at fits = let y = cuts_as slots id me l q b old new has alive all_clear full₀ bare unlaid not_gone old_is half_is new_is s r deep at fits in (y.0, y.1, y.2, y.3.0, y.4)
