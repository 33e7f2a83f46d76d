-- A lane takes its next key, or was cut.
use Rattle.std.proofs.Common.{[], ◌≡◌, ◌≢◌, ℕ, ◌+◌, ◌*◌, ◌/◌, ◌<◌, ◌≤◌, List, ◌∷◌, length, get_or, set, sym, refl, ap, ◌∙◌, subst, arith, Option, Some, true, false, true≢false, eqb, length-set, get_or-set_other, get_or-set_same}
use Rattle.std.proofs.lemmas.Bool.{eqb-true, eqb-false}
use mathlib.Core.Option.{none, some, some-injective}
use prog.Atomic.{either}
use lib.ListN.{get_elem?}
use lib.Seq.{set-get_or}
use Rattle.atomic_table.specs.Table.{step, Act, keeps, takes, stepped, carried_after, Valid, Allows}
use Rattle.atomic_table.proofs.Lists.{set_else, exchanged}
use Rattle.am_cast.specs.declared.views.Tail.{Tail}
use Rattle.am_cast.specs.declared.views.Account.{Account}
use Rattle.am_cast.specs.declared.views.LaneView.{LaneView}
use Rattle.am_cast.specs.declared.views.View.{View}
use Rattle.am_cast.specs.Core.{poster_behind}
use Rattle.am_cast.specs.Rule.{cut, live, Homes, slot, lane_word, shown, bit, Ruled}
use Rattle.am_cast.specs.Changes.{with_lane, holding, cut_off}
use Rattle.am_steps.specs.declared.event.Event.TheVariants as does
use Rattle.am_cast.proofs.Events.{behind, Event, take, take_cut, AllowsEvent}
use Rattle.am_cast.specs.Steps.{SeatState, Takes}
use Rattle.am_cast.specs.Seats.{Took}
use Rattle.am_cast.proofs.Slots.{put_here, put_else, put_same, apart, other_lane, at_length, at_below, prefix_at}
use Rattle.am_cast.proofs.Kept.{same_some, lane_ok, lane_step, one_lane}
use Rattle.am_cast.proofs.Lanes.{live_of, cut_of}

module _ {B K A : Type 0} (key : B → ℕ → K) where
  -- one exchange on the lane's word: the key comes into the hand, or the lane was cut
  pub takes_as : (slots id : ℕ) (me : SeatState B K A) (v : LaneView B A) (old new : ℕ) → me.0.lane ≡ Some v → v.begun ≡ true → v.held ≡ false → v.passed < length v.front → old ≡ 4 * v.passed → new ≡ 4 * v.passed + 2
      → AllowsEvent key slots id me (lane_word v.number) (λ n. either (eqb n old) new n) (λ _. does.Take v.number ∷ []) (Takes key (step slots (lane_word v.number) old new none) me)
  unfolding lane_step one_lane
  takes_as slots id me v old new is begun held below old_is new_is s r deep at fits =
      let o = lane_ok key s r id me.0 v at is in let ok = o.4 in let sd = ok.sound in let t : Tail B = r.tail in
      let l : ℕ = v.number in let b : Account K A = r.account l in let p : ℕ = t.places in let k : ℕ = slot p l v.passed in
      let at_word : ℕ = lane_word l in let n : ℕ = get_or s.words at_word 0 in
      let began = ap (λ (z : LaneView B A). z.begun) (sym o.3) ∙ begun in let small = o.0 in let used = o.2 in let here : v.here ≡ true = sd.seen.begun begun in let stands = sd.counts.stands in let wide = r.wide in
      let word : n ≡ 4 * v.passed + 2 * 0 + b.stand / 2 = ok.word ∙ (λ i. shown (here i) (4 * v.passed + 2 * bit (held i) + b.stand / 2)) in
      let x = at_below v.front v.passed below in
      let there : get_elem? t.log v.passed ≡ some x.0 = prefix_at v.front t.log v.passed x.0 sd.seen.begins x.1 in
      let inside : v.passed < length t.log = at_length t.log v.passed x.0 there in
      let F : ℕ → Type 0 = λ m. (w : View B K A) × (a : Act (Option K)) × Valid s.homes me.1 a × ((q : Ruled key (stepped s at_word m id me.1 w a)) × Event B K A (behind r) (does.Take v.number ∷ []) (behind q) × (poster_behind w ≡ poster_behind me.0)) × Takes key (step slots at_word old new none) me n (w, carried_after me.1 a) in
      exchanged n old new F
      (λ (hit : n ≡ old).
      let alive : b.stand ≡ live = live_of b.stand stands used (λ e. true≢false (sym here ∙ sd.vacates e)) (omega arith) in
      let lives = sd.counts.lives alive in let stop = lives.0 in let cleared = lives.1 in let room = sd.counts.room in let mid = sd.mid in
      let w : LaneView B A = holding v in
      let words : List ℕ = set s.words at_word new in let homes : Homes K = set s.homes k none in
      let beside : (i : ℕ) → b.cleared ≤ i → i < b.cleared + p → i ≢ v.passed → get_elem? homes (slot p l i) ≡ get_elem? s.homes (slot p l i) =
      λ i a c ne. set_else s.homes k (slot p l i) none (apart p l b.cleared i v.passed a c (omega arith) (omega arith) ne) in (
        with_lane w me.0,
        takes k (Some (key x.0 l)),
        ok.keys v.passed x.0 (omega arith) (omega arith) there (lives.2 v.passed mid (omega arith)) (λ h. absurd (true≢false (sym h ∙ held))),
        let kept = lane_step key s r id me.0 v w words homes at is refl refl (length-set s.words at_word new) (length-set s.homes k none) (get_or-set_other s.words at_word 0 new 0 (λ e. omega arith)) (λ m ne. get_or-set_other s.words at_word (lane_word m) new 0 (λ e. ne (omega arith)))
            (λ m i a ne. set_else s.homes k (slot p m i) none (other_lane p m l i v.passed a small ne)) record {
              sound = grind (arith, true≢false);
              word = grind (arith, get_or-set_same);
              keys = λ i y a c d e f. beside i a (omega arith) (f refl) ∙ ok.keys i y a c d e (λ h. absurd (true≢false (sym h ∙ held)));
              empty = λ i a c d e f. beside i (omega arith) c (λ z. omega arith) ∙ ok.empty i a c d e f;
              laid = λ y e. let space = (sd.counts.lays y e).1 in beside b.stop (omega arith) space (λ z. omega arith) ∙ ok.laid y e;
              away = λ e. absurd (let z = (sd.counts.aways e).0 in omega arith);
            } in (
              kept,
              take (behind r) (behind kept) l small began alive (ap (λ (z : LaneView B A). z.held) (sym o.3) ∙ held) (subst (λ (z : LaneView B A). z.passed < length z.front) o.3 below) record {
                tail = refl;
                accounts = λ m. put_same r.account l b m refl;
                others = λ m ne. put_else r.lane l w m ne;
                lane = put_here r.lane l w ∙ ap (λ (z : LaneView B A). holding z) o.3;
              },
              refl,
            ),
        grind (arith, same_some, some-injective),
      ))
      (λ (miss : n ≢ old).
      let was_cut : b.stand ≢ live = λ e. miss (omega arith) in let is_cut : b.stand ≡ cut = cut_of b.stand stands used was_cut (λ e. true≢false (sym here ∙ sd.vacates e)) in
      let w : LaneView B A = cut_off v in
      let words : List ℕ = set s.words at_word n in
      let same : words ≡ s.words = set-get_or s.words at_word 0 in (
        with_lane w me.0,
        keeps,
        tt,
        let kept = lane_step key s r id me.0 v w words s.homes at is refl refl (ap length same) refl (ap (λ (l : List ℕ). get_or l 0 0) same) (λ m _. ap (λ (l : List ℕ). get_or l (lane_word m) 0) same) (λ m i a c. refl) record {
          sound = grind (arith, true≢false);
          word = ap (λ (l : List ℕ). get_or l at_word 0) same ∙ ok.word;
          keys = ok.keys;
          empty = ok.empty;
          laid = ok.laid;
          away = ok.away;
        } in (
          kept,
          grind (arith, take_cut, put_same, put_else, put_here),
          refl,
        ),
        grind (arith, same_some),
      ))

  pub takes_key : (slots id : ℕ) (me : SeatState B K A) (v : LaneView B A) (old new : ℕ) → me.0.lane ≡ Some v → v.begun ≡ true → v.held ≡ false → v.passed < length v.front → old ≡ 4 * v.passed → new ≡ 4 * v.passed + 2
      → Allows (Ruled key) slots id me (lane_word v.number) (λ n. either (eqb n old) new n) (Takes key (step slots (lane_word v.number) old new none) me)
  takes_key slots id me v old new is begun held below old_is new_is s r deep at fits = let x = takes_as slots id me v old new is begun held below old_is new_is s r deep at fits in (x.0, x.1, x.2, x.3.0, x.4)

  -- an answer of the exchange, by whether it found the word that it looked for
  pub took_as : (me me' : SeatState B K A) (v : LaneView B A) (x : B) (n old : ℕ) → get_elem? v.front v.passed ≡ some x → me.1 ≡ []
      → (n ≡ old → (me'.0 ≡ with_lane (holding v) me.0) × (me'.1 ≡ (slot v.places v.number v.passed, Some (key x v.number)) ∷ me.1))
      × (n ≢ old → (me'.0 ≡ with_lane (cut_off v) me.0) × (me'.1 ≡ me.1)) → Took key me v me' (eqb n old)
  took_as me me' v x n old next bare answers = grind (arith, eqb-true, eqb-false)
