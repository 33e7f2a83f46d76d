-- The writer looks whether a lane has left.
use Rattle.std.proofs.Common.{◌≡◌, ◌≢◌, ℕ, get_or, sym, refl, ap, ◌∙◌, subst, arith, None, false}
use mathlib.Core.Logic.{dite}
use mathlib.Core.Option.{none}
use native.Mathlib.Decide.{ℕ_discrete}
use Rattle.atomic_table.specs.Table.{step, keeps, Allows}
use Rattle.am_cast.specs.declared.views.Account.{Account}
use Rattle.am_cast.specs.declared.views.WriterView.{WriterView}
use Rattle.am_cast.specs.declared.views.LaneView.{LaneView}
use Rattle.am_cast.specs.declared.views.View.{View}
use Rattle.am_cast.specs.Rule.{idle, cut, gone, lane_word, Ruled}
use Rattle.am_cast.specs.Changes.{with_writer, with_account, loaded, retired}
use Rattle.am_cast.specs.Core.{reclaim_events}
use Rattle.am_cast.proofs.Events.{behind, reclaim, watch, Event, AllowsEvent}
use Rattle.am_cast.specs.Steps.{SeatState, KnowsOf, SetsAccount, Reclaims}
use Rattle.am_cast.proofs.Slots.{prefix_length, bit_small}
use Rattle.am_cast.proofs.Kept.{writer_ok}
use Rattle.am_cast.proofs.WriterSteps.{Found, either_bool', lane_loaded, retell, same_words, to_account}
use Rattle.am_cast.proofs.steps.Retire.{lane_idle}

module _ {B K A : Type 0} (key : B → ℕ → K) where
  pub reclaims_as : (slots id : ℕ) (me : SeatState B K A) (l : ℕ) (q : WriterView B K A) (b : Account K A) → KnowsOf me.0 l q b → b.stand ≢ idle → b.out ≡ 0 → b.laid ≡ None → (b.stand ≡ cut → b.cleared ≡ b.stop)
      → AllowsEvent key slots id me (lane_word l) (λ n. n) (reclaim_events l b.stand) (Reclaims (step slots (lane_word l) 0 0 none) me)
  reclaims_as slots id me l q b has used bare unlaid all_clear s r deep at fits =
      let o = writer_ok key s r id me.0 l q b at has in let ok = o.ok in let sd = ok.sound in let v : LaneView B A = r.lane l in
      let n : ℕ = get_or s.words (lane_word l) 0 in let stand_is = ap (λ (c : Account K A). c.stand) o.account in
      let P : ℕ → WriterView B K A → Account K A → View B K A → Type 0 = λ l q b w. (n ≡ gone → SetsAccount l q (retired b) me.0 w) × (n ≢ gone → SetsAccount l q (loaded b) me.0 w) in
      let f : Found key s r id me l (reclaim_events l b.stand) (P l q b) = dite (ℕ_discrete n gone)
      (λ (e : n ≡ gone).
      let few = r.few in let high = sd.seen.high in let long = prefix_length v.front r.tail.log sd.seen.begins in let stands = sd.counts.stands in
      let away_from : v.here ≡ false = grind (arith, either_bool', bit_small) in
      let kept = same_words key s r id l me q b (retired b) at o (λ ws same. lane_idle key r.tail b v s.words ws s.homes l r.some_places ok away_from bare unlaid all_clear (same ∙ e)) in record {
        view = with_writer (with_account l (retired b) q) me.0;
        kept = kept.0;
        event = subst (λ (m : ℕ). Event B K A (behind r) (reclaim_events l m n) (behind kept.0)) stand_is (reclaim (behind r) (behind kept.0) l n o.small e (λ z. used (sym stand_is ∙ z)) away_from (to_account (λ c. retired c) (sym o.account) kept.1));
        poster = refl;
        tells = ((λ _. refl), (λ ne. absurd (ne e)));
      })
      (λ (ne : n ≢ gone).
      let kept = same_words key s r id l me q b (loaded b) at o (λ ws same. lane_loaded key r.tail b v s.words ws s.homes l same ok) in record {
        view = with_writer (with_account l (loaded b) q) me.0;
        kept = kept.0;
        event = subst (λ (m : ℕ). Event B K A (behind r) (reclaim_events l m n) (behind kept.0)) stand_is (watch (behind r) (behind kept.0) l n ne (to_account (λ c. loaded c) (sym o.account) kept.1));
        poster = refl;
        tells = ((λ e. absurd (ne e)), (λ _. refl));
      }) in
      (f.view, keeps, tt, (f.kept, f.event, f.poster), (refl, λ l' q' b' e has'. retell (λ l q b. P l q b f.view) me.0 l l' q q' b b' has has' (omega arith) f.tells))

  pub reclaims : (slots id : ℕ) (me : SeatState B K A) (l : ℕ) (q : WriterView B K A) (b : Account K A) → KnowsOf me.0 l q b → b.stand ≢ idle → b.out ≡ 0 → b.laid ≡ None → (b.stand ≡ cut → b.cleared ≡ b.stop)
      → Allows (Ruled key) slots id me (lane_word l) (λ n. n) (Reclaims (step slots (lane_word l) 0 0 none) me)
  reclaims slots id me l q b has used bare unlaid all_clear s r deep at fits = let y = reclaims_as slots id me l q b has used bare unlaid all_clear s r deep at fits in (y.0, y.1, y.2, y.3.0, y.4)
