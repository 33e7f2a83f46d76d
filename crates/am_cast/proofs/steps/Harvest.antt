-- The writer finds a lane's word.
use Rattle.std.proofs.Common.{◌%◌, ◌≡◌, ◌≢◌, ℕ, ◌+◌, ◌*◌, ◌/◌, get_or, sym, refl, ◌∙◌, arith, None, true, false, true≢false}
use mathlib.Core.Logic.{dite}
use mathlib.Core.Option.{none, some}
use native.Mathlib.Decide.{ℕ_discrete}
use lib.ListN.{get_elem?}
use Rattle.atomic_table.specs.Table.{step, keeps, Allows}
use Rattle.am_cast.specs.declared.views.Account.{Account}
use Rattle.am_cast.specs.declared.views.WriterView.{WriterView}
use Rattle.am_cast.specs.declared.views.LaneView.{LaneView}
use Rattle.am_cast.specs.Rule.{live, gone, lane_word, bit, Ruled}
use Rattle.am_cast.specs.Changes.{with_writer, with_account, marked, known_to}
use Rattle.am_cast.specs.Core.{found_events}
use Rattle.am_cast.proofs.Events.{harvest, mark, AllowsEvent}
use Rattle.am_cast.specs.Steps.{SeatState, KnowsOf, Finds, Harvests}
use Rattle.am_cast.proofs.Slots.{prefix_length, bit_small}
use Rattle.am_cast.proofs.Kept.{St, WriterOk, writer_ok}
use Rattle.am_cast.proofs.WriterSteps.{Found, either_bool', here_of, none_some, retell, same_words, to_account}

module _ {B K A : Type 0} (key : B → ℕ → K) where
  pub finds : (s : St B K A) (r : Ruled key s) (id l : ℕ) (me : SeatState B K A) (q : WriterView B K A) (b : Account K A) → get_elem? s.views id ≡ some me.0 → WriterOk key s r id l q b → b.stand ≡ live → b.laid ≡ None → Found key s r id me l (found_events l) (Finds l q b (get_or s.words (lane_word l) 0) me.0)
  finds s r id l me q b at o alive unlaid =
      let n : ℕ = get_or s.words (lane_word l) 0 in let ok = o.ok in let sd = ok.sound in let v : LaneView B A = r.lane l in
      dite (ℕ_discrete n gone)
      (λ (e : n ≡ gone).
      let c = sd.counts in let few = r.few in let high = sd.seen.high in let long = prefix_length v.front r.tail.log sd.seen.begins in
      let away_from : v.here ≡ false = grind (arith, either_bool', bit_small) in
      let bare_hand : v.held ≡ true → ⊥ = (λ h. true≢false (sym (sd.seen.holds h).0 ∙ away_from)) in
      let kept = same_words key s r id l me q b (marked b) at o (grind (arith, none_some)) in record {
        view = with_writer (with_account l (marked b) q) me.0;
        kept = kept.0;
        event = grind (arith, mark, to_account);
        poster = refl;
        tells = ((λ _. refl), (λ ne. absurd (ne e)));
      })
      (λ (ne : n ≢ gone).
      let h = here_of v.here n (4 * v.passed + 2 * bit v.held + b.stand / 2) ok.word ne in let h₁ = h.1 in let small = bit_small v.held in
      let is : n / 4 ≡ v.passed = omega arith in let half_is : n / 2 % 2 ≡ bit v.held = omega arith in let mid = sd.mid in let low = sd.counts.low in let high = sd.seen.high in let long = prefix_length v.front r.tail.log sd.seen.begins in
      let lives = sd.counts.lives alive in let cleared = lives.1 in let not_away : b.away ≡ true → ⊥ = (λ e. let c = (sd.counts.aways e).0 in omega arith) in
      let b' : Account K A = known_to n b in
      let kept = same_words key s r id l me q b b' at o (λ ws same. record {
        sound = record {
          seen = sd.seen;
          counts = record { stands = sd.counts.stands; low = omega arith; clear = sd.counts.clear; room = sd.counts.room; stops = sd.counts.stops; lives = λ _. (lives.0, omega arith, (λ i a c. lives.2 i (omega arith) c)); lays = sd.counts.lays; aways = λ e. absurd (not_away e) };
          turn = sd.turn;
          note = sd.note;
          start = sd.start;
          idles = sd.idles;
          vacates = sd.vacates;
          mid = omega arith;
          halves = λ _. (let e : n / 2 ≡ 2 * v.passed + bit v.held = omega arith in omega arith);
          cuts = sd.cuts;
          keeps = λ e. absurd (omega arith);
          lags = λ e. absurd (omega arith);
        };
        word = same ∙ ok.word;
        keys = ok.keys;
        empty = λ i a c d e f. ok.empty i a c d (λ e. absurd (not_away e)) f;
        laid = ok.laid;
        away = λ e. absurd (not_away e);
      }) in record {
        view = with_writer (with_account l b' q) me.0;
        kept = kept.0;
        event = grind (arith, harvest, to_account);
        poster = refl;
        tells = grind arith;
      })

  pub harvests_as : (slots id : ℕ) (me : SeatState B K A) (l : ℕ) (q : WriterView B K A) (b : Account K A) → KnowsOf me.0 l q b → b.stand ≡ live → b.laid ≡ None → AllowsEvent key slots id me (lane_word l) (λ n. n) (found_events l) (Harvests (step slots (lane_word l) 0 0 none) me)
  harvests_as slots id me l q b has alive unlaid s r deep at fits =
      let o = writer_ok key s r id me.0 l q b at has in let f = finds s r id l me q b at o alive unlaid in let n : ℕ = get_or s.words (lane_word l) 0 in
      (f.view, keeps, tt, (f.kept, f.event, f.poster), (refl, λ l' q' b' e has'. retell (λ l q b. Finds l q b n me.0 f.view) me.0 l l' q q' b b' has has' (omega arith) f.tells))

  pub harvests : (slots id : ℕ) (me : SeatState B K A) (l : ℕ) (q : WriterView B K A) (b : Account K A) → KnowsOf me.0 l q b → b.stand ≡ live → b.laid ≡ None → Allows (Ruled key) slots id me (lane_word l) (λ n. n) (Harvests (step slots (lane_word l) 0 0 none) me)
  harvests slots id me l q b has alive unlaid s r deep at fits = let y = harvests_as slots id me l q b has alive unlaid s r deep at fits in (y.0, y.1, y.2, y.3.0, y.4)
