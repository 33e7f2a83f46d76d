-- A lane whose seat took in the writer's is left, and is idle at once.
use Rattle.std.proofs.Common.{[], ◌∷◌, ◌++◌, ◌≡◌, ◌≢◌, ℕ, suc, ◌+◌, ◌*◌, ◌<◌, List, get_or, set, sym, refl, ap, ◌∙◌, subst, inl, arith, Option, Some, None, Bool, true, false, true≢false, length-set, get_or-set_other, get_or-set_same}
use mathlib.Core.Option.{none}
use lib.ListN.{get_elem?}
use Rattle.atomic_table.specs.Table.{step, homes_after, Allows}
use Rattle.am_cast.specs.declared.views.Tail.{Tail}
use Rattle.am_cast.specs.declared.views.Account.{Account}
use Rattle.am_cast.specs.declared.views.WriterView.{WriterView}
use Rattle.am_cast.specs.declared.views.LaneView.{LaneView}
use Rattle.am_cast.specs.declared.views.View.{View}
use Rattle.am_steps.specs.declared.event.Event.TheVariants as does
use Rattle.am_cast.specs.Rule.{idle, cut, gone, Homes, lane_word, shown, bit, LaneOk, Ruled}
use Rattle.am_cast.specs.Changes.{with_account, retired, back_if, left, either_one, both_of}
use Rattle.am_cast.proofs.Events.{behind, retire, BothTo, AllowsEvent}
use Rattle.am_cast.specs.Steps.{SeatState, KnowsOf, Retires}
use Rattle.am_cast.specs.Seats.{HoldsIf}
use Rattle.am_cast.proofs.Slots.{one_turn_on}
use Rattle.am_cast.proofs.Kept.{same_some, one_laned, lane_ok, writer_ok, sets_account}
use Rattle.am_cast.proofs.WriterSteps.{none_some, retell}
use Rattle.am_cast.proofs.steps.Leave.{carries, leaves_it}

pub either_bool : (h : Bool) {X : Type 0} → (h ≡ true → X) → (h ≡ false → X) → X
either_bool true f g = f refl
either_bool false f g = g refl

module _ {B K A : Type 0} (key : B → ℕ → K) where
  -- a lane that has left may become idle: a key that was away is back
  pub lane_idle : (t : Tail B) (b : Account K A) (v : LaneView B A) (words words' : List ℕ) (homes : Homes K) (l : ℕ) → 0 < t.places → LaneOk key t b v words homes l → v.here ≡ false → b.out ≡ 0 → b.laid ≡ None → (b.stand ≡ cut → b.cleared ≡ b.stop) → get_or words' (lane_word l) 0 ≡ gone → LaneOk key t (retired b) v words' homes l
  lane_idle t b v words words' homes l pos ok away_from bare unlaid all_clear word =
      let sd = ok.sound in let c = sd.counts in let p : ℕ = t.places in let stands = c.stands in let stops = c.stops in
      let bare_hand : v.held ≡ false = either_bool v.held (λ (e : v.held ≡ true). absurd (true≢false (sym (sd.seen.holds e).0 ∙ away_from))) (λ e. e) in
      let word_is : get_or words' (lane_word l) 0 ≡ shown v.here (4 * v.passed + 2 * bit v.held + 0) = word ∙ (λ i. shown (sym away_from i) (4 * v.passed + 2 * bit v.held + 0)) in
      either_bool b.away
      (λ (e : b.away ≡ true).
      let aways = c.aways e in let a₀ = aways.0 in let a₁ = aways.1 in let a₂ = aways.2 in let clear = all_clear a₀ in
      let b' : Account K A = record b { away = false; cleared = b.known; stop = suc b.known; stand = idle; loads = b.loads + 1 } in
      subst (λ (b' : Account K A). LaneOk key t b' v words' homes l) (λ i. record (back_if (sym e i) b) { stand = idle; loads = b.loads + 1 }) (let ok' : LaneOk key t b' v words' homes l = record {
        sound = grind (arith, none_some, true≢false);
        word = word_is;
        keys = grind arith;
        empty = λ i a d _ _ _. ap (get_elem? homes) (sym (one_turn_on p l i)) ∙ ok.empty (i + p) (omega arith) (omega arith) (λ z. omega arith) (λ _ z. omega arith) (λ _. unlaid);
        laid = λ y z. absurd (none_some y (sym unlaid ∙ z));
        away = λ z. absurd (true≢false (sym z));
      } in ok'))
      (λ (e : b.away ≡ false).
      let b' : Account K A = record b { stand = idle; loads = b.loads + 1 } in
      subst (λ (b' : Account K A). LaneOk key t b' v words' homes l) (λ i. record (back_if (sym e i) b) { stand = idle; loads = b.loads + 1 }) (let ok' : LaneOk key t b' v words' homes l = record {
        sound = grind (arith, none_some, true≢false);
        word = word_is;
        keys = ok.keys;
        empty = ok.empty;
        laid = ok.laid;
        away = ok.away;
      } in ok'))

  -- a lane's seat that has taken in the writer's
  pub record HasBoth (me : SeatState B K A) (v : LaneView B A) (q : WriterView B K A) : Type 0 where
    pub lane : me.0.lane ≡ Some v
    pub writer : me.0.writer ≡ Some q
    pub own : me.0.own ≡ []
    pub hand : HoldsIf key v.held me v

  pub takes_both : (mine other me : SeatState B K A) (v : LaneView B A) (q : WriterView B K A) → mine.0.writer ≡ Some q → mine.0.own ≡ [] → other.0.lane ≡ Some v → other.0.writer ≡ None → other.0.own ≡ [] → HoldsIf key v.held other v → me.0 ≡ both_of other.0 mine.0 → me.1 ≡ other.1 → HasBoth me v q
  takes_both mine other me v q writer_is no_own lane_is no_writer no_own' hand both same = record {
    lane = ap (λ (w : View B K A). w.lane) both ∙ ap (λ (o : Option (LaneView B A)). either_one o mine.0.lane) lane_is;
    writer = ap (λ (w : View B K A). w.writer) both ∙ (λ i. either_one (no_writer i) (writer_is i));
    own = ap (λ (w : View B K A). w.own) both ∙ (λ i. no_own' i ++ no_own i);
    hand = held_same v.held hand;
  }
    where
      held_same : (held : Bool) → HoldsIf key held other v → HoldsIf key held me v
      held_same true h = (h.0, h.1, same ∙ h.2)
      held_same false h = same ∙ h

  pub retires_as : (slots id : ℕ) (me : SeatState B K A) (v : LaneView B A) (q : WriterView B K A) (b : Account K A) (new : ℕ) → me.0.lane ≡ Some v → KnowsOf me.0 v.number q b → v.begun ≡ true → HoldsIf key v.held me v → b.out ≡ 0 → b.laid ≡ None → (b.stand ≡ cut → b.cleared ≡ b.stop) → new ≡ gone
      → AllowsEvent key slots id me (lane_word v.number) (λ _. new) (λ _. does.Leave v.number ∷ does.Retire v.number ∷ []) (λ _. Retires (step slots (lane_word v.number) new 0 none) me new)
  retires_as slots id me v q b new is has begun hand bare unlaid all_clear new_is s r deep at fits =
      let l : ℕ = v.number in let o = writer_ok key s r id me.0 l q b at has in let k = lane_ok key s r id me.0 v at is in let t : Tail B = r.tail in
      let ok : LaneOk key t b v s.words s.homes l = subst (λ (c : Account K A). LaneOk key t c v s.words s.homes l) o.account k.4 in
      let used : b.stand ≢ idle = (λ e. k.2 (ap (λ (c : Account K A). c.stand) o.account ∙ e)) in
      let at_word : ℕ = lane_word l in let small = o.small in let wide = r.wide in let words : List ℕ = set s.words at_word new in
      let word : get_or words at_word 0 ≡ gone = get_or-set_same s.words at_word new 0 (omega arith) ∙ new_is in
      let gone_now = leaves_it key t b v s.words words s.homes me small r.some_places r.deep used ok (carries key me v v.held refl hand) word in
      let here = lane_idle t b (left v) words words (homes_after s.homes me.1 gone_now.act) l r.some_places gone_now.ok refl bare unlaid all_clear word in
      let b' : Account K A = retired b in
      let w' : View B K A = record me.0 { writer = Some (with_account l b' q); lane = None } in (
        w',
        gone_now.act,
        gone_now.valid,
        (let kept = one_laned key s r l b' (left v) id me.0 (Some (with_account l b' q)) None words (homes_after s.homes me.1 gone_now.act) small at (length-set s.words at_word new) gone_now.long (get_or-set_other s.words at_word 0 new 0 (λ e. omega arith)) (λ m ne. get_or-set_other s.words at_word (lane_word m) new 0 (λ e. ne (omega arith))) gone_now.others
            (inl o.mine) (inl k.1) (sets_account key s r id l q b b' (left v) o) tt here in
            let to : BothTo (behind r) (behind kept.0) l (left (r.lane l)) (retired (r.account l)) = record { tail = kept.1.tail; lanes = kept.1.lanes; accounts = kept.1.accounts; lane = subst (λ (z : LaneView B A). kept.0.lane l ≡ left z) k.3 kept.1.lane; account = subst (λ (c : Account K A). kept.0.account l ≡ retired c) (sym o.account) kept.1.account } in
            (kept.0, retire (behind r) (behind kept.0) l small (ap (λ (z : LaneView B A). z.begun) (sym k.3) ∙ begun) to, refl)),
        (let sound = subst (λ (t : Tail B). Rattle.am_cast.specs.Rule.Sound t b v l) (sym o.tail) ok.sound in let hand_is = gone_now.hand in grind (arith, same_some, retell)),
      )

  pub retires : (slots id : ℕ) (me : SeatState B K A) (v : LaneView B A) (q : WriterView B K A) (b : Account K A) (new : ℕ) → me.0.lane ≡ Some v → KnowsOf me.0 v.number q b → v.begun ≡ true → HoldsIf key v.held me v → b.out ≡ 0 → b.laid ≡ None → (b.stand ≡ cut → b.cleared ≡ b.stop) → new ≡ gone
      → Allows (Ruled key) slots id me (lane_word v.number) (λ _. new) (λ _. Retires (step slots (lane_word v.number) new 0 none) me new)
  retires slots id me v q b new is has begun hand bare unlaid all_clear new_is s r deep at fits = let y = retires_as slots id me v q b new is has begun hand bare unlaid all_clear new_is s r deep at fits in (y.0, y.1, y.2, y.3.0, y.4)
