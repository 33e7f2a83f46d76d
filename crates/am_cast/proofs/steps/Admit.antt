-- A lane is given out.
use Rattle.std.proofs.Common.{[], ◌∷◌, false, ◌≡◌, ℕ, ◌+◌, ◌*◌, List, length, set, sym, refl, ap, ◌∙◌, inl, arith, Option, Some, None, true≢false, length-set, get_or-set_other, get_or-set_same}
use mathlib.Core.Option.{none}
use lib.ListN.{get_elem?}
use Rattle.atomic_table.specs.Table.{step, keeps, Allows}
use Rattle.am_cast.specs.declared.views.Tail.{Tail}
use Rattle.am_cast.specs.declared.views.Account.{Account}
use Rattle.am_cast.specs.declared.views.WriterView.{WriterView}
use Rattle.am_cast.specs.declared.views.LaneView.{LaneView}
use Rattle.am_cast.specs.declared.views.View.{View}
use Rattle.am_cast.specs.Rule.{idle, lane_word, Ruled}
use Rattle.am_cast.specs.Changes.{with_account, given_out, new_lane}
use Rattle.am_steps.specs.declared.event.Event.TheVariants as does
use Rattle.am_cast.proofs.Events.{behind, admit, AllowsEvent}
use Rattle.am_cast.specs.Steps.{SeatState, KnowsOf, Admits}
use Rattle.am_cast.proofs.Slots.{put_here, same_slot, prefix_self}
use Rattle.am_cast.proofs.Kept.{one_laned, reseats, writer_ok, sets_account}
use Rattle.am_cast.proofs.WriterSteps.{none_some, retell}

module _ {B K A : Type 0} (key : B → ℕ → K) where
  pub admits_as : (note : Option A) (slots id : ℕ) (me : SeatState B K A) (l : ℕ) (q : WriterView B K A) (b : Account K A) (new : ℕ) → KnowsOf me.0 l q b → q.tail.closed ≡ false → b.stand ≡ idle → b.cleared ≡ b.stop → b.out ≡ 0 → b.laid ≡ None → new ≡ 4 * length q.tail.log
      → AllowsEvent key slots id me (lane_word l) (λ _. new) (λ _. does.Admit l ∷ []) (λ _. Admits note (step slots (lane_word l) new 0 none) me new)
  admits_as note slots id me l q b new has open₀ resting all_clear bare unlaid new_is₀ s r deep at fits =
      let o = writer_ok key s r id me.0 l q b at has in let ok = o.ok in let sd = ok.sound in let c = sd.counts in let t : Tail B = r.tail in let p : ℕ = t.places in
      let n : ℕ = length t.log in let at_word : ℕ = lane_word l in let small = o.small in let wide = r.wide in let stops = c.stops in
      let new_is : new ≡ 4 * n = new_is₀ ∙ ap (λ (t : Tail B). 4 * length t.log) o.tail in
      let b' : Account K A = given_out note n b in let v' : LaneView B A = new_lane note l t b in
      let stand_is : (r.account l).stand ≡ idle = ap (λ (c : Account K A). c.stand) o.account ∙ resting in
      let r' : Ruled key s = reseats key s r l id (sd.idles resting) in
      let words : List ℕ = set s.words at_word new in
      let w' : View B K A = record me.0 { writer = Some (with_account l b' q); lane = Some v' } in (
        w',
        keeps,
        tt,
        (let kept = one_laned key s r' l b' v' id me.0 (Some (with_account l b' q)) (Some v') words s.homes small at (length-set s.words at_word new) refl (get_or-set_other s.words at_word 0 new 0 (λ e. omega arith))
            (λ m ne. get_or-set_other s.words at_word (lane_word m) new 0 (λ e. ne (omega arith))) (λ m i a ne. refl) (inl o.mine) (inl (put_here r.lane_seat l id))
            (sets_account key s r id l q b b' v' o)
            (grind (arith, put_here))
            record {
              sound = grind (arith, prefix_self, true≢false, none_some);
              word = get_or-set_same s.words at_word new 0 (omega arith) ∙ (let e : new ≡ 4 * n + 2 * 0 + 0 = omega arith in e);
              keys = λ i x a d _ _ _. absurd (omega arith);
              empty = λ i a d _ _ _. let j = same_slot p l b.stop i r.some_places (omega arith) in let j₂ = j.2 in
                  ap (get_elem? s.homes) j.3 ∙ ok.empty j.0 j.1 (omega arith) (λ z. omega arith) (λ z. absurd (let a = (c.aways z).0 in omega arith)) (λ _. unlaid);
              laid = λ k e. absurd (none_some k e);
              away = λ e. absurd (true≢false (sym e));
            } in (kept.0, admit (behind r) (behind kept.0) l note small (ap (λ (t : Tail B). t.closed) (sym o.tail) ∙ open₀) stand_is record { tail = kept.1.tail; lanes = kept.1.lanes; accounts = kept.1.accounts; lane = kept.1.lane ∙ ap (λ (c : Account K A). new_lane note l t c) (sym o.account); account = kept.1.account ∙ ap (λ (c : Account K A). given_out note n c) (sym o.account) }, refl)),
        grind (arith, retell),
      )

  pub admits : (note : Option A) (slots id : ℕ) (me : SeatState B K A) (l : ℕ) (q : WriterView B K A) (b : Account K A) (new : ℕ) → KnowsOf me.0 l q b → q.tail.closed ≡ false → b.stand ≡ idle → b.cleared ≡ b.stop → b.out ≡ 0 → b.laid ≡ None → new ≡ 4 * length q.tail.log
      → Allows (Ruled key) slots id me (lane_word l) (λ _. new) (λ _. Admits note (step slots (lane_word l) new 0 none) me new)
  admits note slots id me l q b new has open₀ resting all_clear bare unlaid new_is₀ s r deep at fits = let y = admits_as note slots id me l q b new has open₀ resting all_clear bare unlaid new_is₀ s r deep at fits in (y.0, y.1, y.2, y.3.0, y.4)
