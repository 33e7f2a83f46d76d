-- The writer looks whether the key of a cut lane is back.
use Rattle.std.proofs.Common.{subst, length, ◌≤◌, ◌≡◌, ◌≢◌, ℕ, ◌+◌, ◌*◌, ◌/◌, ◌%◌, get_or, sym, refl, ap, ◌∙◌, arith, Bool, true, false, true≢false}
use mathlib.Core.Logic.{dite}
use mathlib.Core.Option.{none}
use native.Mathlib.Decide.{ℕ_discrete}
use lib.ListN.{get_elem?}
use Rattle.atomic_table.specs.Table.{step, keeps, Allows}
use Rattle.am_cast.specs.declared.views.Tail.{Tail}
use Rattle.am_cast.specs.declared.views.Account.{Account}
use Rattle.am_cast.specs.declared.views.WriterView.{WriterView}
use Rattle.am_cast.specs.declared.views.LaneView.{LaneView}
use Rattle.am_cast.specs.declared.views.View.{View}
use Rattle.am_cast.specs.Rule.{cut, lane_word, bit, Ruled}
use Rattle.am_cast.specs.Changes.{with_writer, with_account, loaded, back}
use Rattle.am_cast.specs.Core.{recover_events}
use Rattle.am_cast.proofs.Events.{behind, recover, peek, AllowsEvent}
use Rattle.am_cast.specs.Steps.{SeatState, KnowsOf, SetsAccount, Recovers}
use Rattle.am_cast.proofs.Slots.{prefix_length, prefix_length, one_turn_on}
use Rattle.am_cast.proofs.Kept.{writer_ok}
use Rattle.am_cast.proofs.WriterSteps.{Found, here_of, lane_loaded, retell, same_words, to_account}

module _ {B K A : Type 0} (key : B → ℕ → K) where
  -- the key of a cut lane comes back
  pub recovers_as : (slots id : ℕ) (me : SeatState B K A) (l : ℕ) (q : WriterView B K A) (b : Account K A) → KnowsOf me.0 l q b → b.stand ≡ cut → b.away ≡ true → b.cleared ≡ b.stop → b.out ≡ 0
      → AllowsEvent key slots id me (lane_word l) (λ n. n) (recover_events l) (Recovers (step slots (lane_word l) 0 0 none) me)
  recovers_as slots id me l q b has dead is_away all_clear bare s r deep at fits =
      let o = writer_ok key s r id me.0 l q b at has in let ok = o.ok in let sd = ok.sound in let v : LaneView B A = r.lane l in
      let n : ℕ = get_or s.words (lane_word l) 0 in
      let P : ℕ → WriterView B K A → Account K A → View B K A → Type 0 = λ l q b w. (n / 2 % 2 ≡ 0 → SetsAccount l q (back (n / 4) (loaded b)) me.0 w × (b.known ≤ n / 4) × (n / 4 ≤ length q.tail.log)) × (n / 2 % 2 ≢ 0 → SetsAccount l q (loaded b) me.0 w) in
      let f : Found key s r id me l (recover_events l) (P l q b) = dite (ℕ_discrete (n / 2 % 2) 0)
      (λ (e : n / 2 % 2 ≡ 0).
      let h = here_of v.here n (4 * v.passed + 2 * bit v.held + b.stand / 2) ok.word (λ z. omega arith) in
      let bare_hand : v.held ≡ false = not_held v.held v.passed b.stand n h.1 e (omega arith) in
      let h₁ = h.1 in let mid = sd.mid in let high = sd.seen.high in let long = prefix_length v.front r.tail.log sd.seen.begins in let low = sd.counts.low in let is_at : n / 4 ≡ v.passed = at_passed v.held v.passed b.stand n h.1 bare_hand dead in let aways = sd.counts.aways is_away in let a₁ = aways.1 in let a₂ = aways.2 in let stops = sd.counts.stops in let pos = r.some_places in let p : ℕ = r.tail.places in
      let b' : Account K A = back (n / 4) (loaded b) in
      let kept = same_words key s r id l me q b b' at o (λ ws same. record {
        sound = grind (arith, true≢false);
        word = same ∙ ok.word;
        keys = grind arith;
        empty = λ i a c _ _ _. ap (get_elem? s.homes) (sym (one_turn_on p l i)) ∙ ok.empty (i + p) (omega arith) (omega arith) (λ z. omega arith) (λ _ z. omega arith) (λ z. absurd (omega arith));
        laid = λ k z. absurd (let c = (sd.counts.lays k z).0 in omega arith);
        away = λ z. absurd (true≢false (sym z));
      }) in record {
        view = with_writer (with_account l b' q) me.0;
        kept = kept.0;
        event = grind (arith, recover, to_account);
        poster = refl;
        tells = ((λ _. (refl, omega arith, subst (λ (t : Tail B). n / 4 ≤ length t.log) (sym o.tail) (omega arith))), (λ ne. absurd (ne e)));
      })
      (λ (ne : n / 2 % 2 ≢ 0).
      let kept = same_words key s r id l me q b (loaded b) at o (λ ws same. lane_loaded key r.tail b v s.words ws s.homes l same ok) in record {
        view = with_writer (with_account l (loaded b) q) me.0;
        kept = kept.0;
        event = peek (behind r) (behind kept.0) l n ne (to_account (λ c. loaded c) (sym o.account) kept.1);
        poster = refl;
        tells = ((λ e. absurd (ne e)), (λ _. refl));
      }) in
      (f.view, keeps, tt, (f.kept, f.event, f.poster), (refl, λ l' q' b' e has'. retell (λ l q b. P l q b f.view) me.0 l l' q q' b b' has has' (omega arith) f.tells))
    where
      not_held : (h : Bool) (p stand n : ℕ) → n ≡ 4 * p + 2 * bit h + stand / 2 → n / 2 % 2 ≡ 0 → stand ≡ 2 → h ≡ false
      not_held true p stand n e f g = absurd (omega arith)
      not_held false p stand n e f g = refl

      at_passed : (h : Bool) (p stand n : ℕ) → n ≡ 4 * p + 2 * bit h + stand / 2 → h ≡ false → stand ≡ 2 → n / 4 ≡ p
      at_passed true p stand n e f g = absurd (true≢false f)
      at_passed false p stand n e f g = omega arith

  pub recovers : (slots id : ℕ) (me : SeatState B K A) (l : ℕ) (q : WriterView B K A) (b : Account K A) → KnowsOf me.0 l q b → b.stand ≡ cut → b.away ≡ true → b.cleared ≡ b.stop → b.out ≡ 0
      → Allows (Ruled key) slots id me (lane_word l) (λ n. n) (Recovers (step slots (lane_word l) 0 0 none) me)
  recovers slots id me l q b has dead is_away all_clear bare s r deep at fits = let y = recovers_as slots id me l q b has dead is_away all_clear bare s r deep at fits in (y.0, y.1, y.2, y.3.0, y.4)
