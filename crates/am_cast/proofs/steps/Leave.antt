-- A lane is left, with a key in hand or with none.
use Rattle.std.proofs.Common.{[], ◌≡◌, ◌≢◌, ℕ, ◌*◌, List, length, get_or, ◌<◌, ◌∷◌, set, sym, refl, ap, ◌∙◌, subst, inl, inr, arith, Option, Some, None, Bool, true, false, true≢false, length-set, get_or-set_other, get_or-set_same}
use mathlib.Core.Logic.{dite}
use mathlib.Core.Option.{none, some}
use native.Mathlib.Decide.{ℕ_discrete}
use lib.ListN.{get_elem?}
use Rattle.atomic_table.specs.Table.{step, Act, keeps, gives, homes_after, carried_after, Valid, Allows}
use Rattle.atomic_table.proofs.Lists.{set_else}
use Rattle.am_cast.specs.declared.limits.TheConstants.{LANES}
use Rattle.am_cast.specs.declared.views.Tail.{Tail}
use Rattle.am_cast.specs.declared.views.Account.{Account}
use Rattle.am_cast.specs.declared.views.LaneView.{LaneView}
use Rattle.am_cast.specs.Rule.{gone, idle, Homes, slot, lane_word, Sound, LaneOk, Ruled}
use Rattle.am_cast.specs.Changes.{without_lane, left, laid_down}
use Rattle.am_steps.specs.declared.event.Event.TheVariants as does
use Rattle.am_cast.proofs.Events.{behind, leave, LaneTo, AllowsEvent}
use Rattle.am_cast.specs.Steps.{SeatState, Leaves}
use Rattle.am_cast.specs.Seats.{HoldsIf}
use Rattle.am_cast.proofs.Slots.{other_lane}
use Rattle.am_cast.proofs.Kept.{same_some, lane_ok, same_writer, one_laned}
use Rattle.am_cast.proofs.Lanes.{at_home, comes_home}

module _ {B K A : Type 0} (key : B → ℕ → K) where
  -- the slot of the place v.passed is in hand, if v says so
  abbrev pub Carries : SeatState B K A → LaneView B A → Type 0
  Carries me v = v.held ≡ true → (x : B) × (cs : List (ℕ × Option K)) × (get_elem? v.front v.passed ≡ some x) × (me.1 ≡ (slot v.places v.number v.passed, Some (key x v.number)) ∷ cs)

  pub carries : (me : SeatState B K A) (v : LaneView B A) (held : Bool) → v.held ≡ held → HoldsIf key held me v → Carries me v
  carries me v true e has = λ _. (has.0, [], has.1, has.2)
  carries me v false e bare = λ h. absurd (true≢false (sym h ∙ e))

  -- no slot is in hand then
  pub none_left : (me : SeatState B K A) (v : LaneView B A) (held : Bool) → HoldsIf key held me v → laid_down held me.1 ≡ []
  none_left me v held has = grind arith

  -- what is known of a lane that is left stays
  pub sound_left : (t : Tail B) (b : Account K A) (v : LaneView B A) (l : ℕ) → Sound t b v l → Sound t b (left v) l
  sound_left t b v l sd = grind (arith, true≢false)

  -- the lane is left: the slot in hand goes home, and all else stays
  pub record IsLeft (t : Tail B) (b : Account K A) (v : LaneView B A) (words : List ℕ) (homes : Homes K) (c : List (ℕ × Option K)) : Type 0 where
    pub act : Act (Option K)
    pub valid : Valid homes c act
    pub long : length (homes_after homes c act) ≡ length homes
    pub others : (m i : ℕ) → m < LANES → m ≢ v.number → get_elem? (homes_after homes c act) (slot t.places m i) ≡ get_elem? homes (slot t.places m i)
    pub ok : LaneOk key t b (left v) words (homes_after homes c act) v.number
    pub hand : carried_after c act ≡ laid_down v.held c

  pub leaves_it : (t : Tail B) (b : Account K A) (v : LaneView B A) (words words' : List ℕ) (homes : Homes K) (me : SeatState B K A) → v.number < LANES → 0 < t.places → length homes ≡ LANES * t.places → b.stand ≢ idle → LaneOk key t b v words homes v.number → Carries me v → get_or words' (lane_word v.number) 0 ≡ gone → IsLeft t b v words' homes me.1
  leaves_it t b v words words' homes me small pos deep used ok carried word = either_bool v.held
      (λ (e : v.held ≡ true). let has = carried e in let x : B = has.0 in let l : ℕ = v.number in let k : ℕ = slot t.places l v.passed in let all = comes_home key t b v words homes l x small pos deep ok used e has.2 in
      let hand : me.1 ≡ (k, Some (key x l)) ∷ has.1 = has.3 ∙ ap (λ (q : ℕ). let c : List (ℕ × Option K) = (slot q l v.passed, Some (key x l)) ∷ has.1 in c) ok.sound.seen.places in
      subst (λ (c : List (ℕ × Option K)). IsLeft t b v words' homes c) (sym hand) record {
        act = gives;
        valid = tt;
        long = length-set homes k (some (Some (key x l)));
        others = λ m i a ne. set_else homes k (slot t.places m i) (some (Some (key x l))) (other_lane t.places m l i v.passed a small ne);
        ok = record { sound = sound_left t b v l ok.sound; word = word; keys = λ i y a c d f g. all.keys i y a c d f; empty = all.empty; laid = all.laid; away = λ h y f _. all.away h y f };
        hand = ap (λ (h : Bool). laid_down h ((k, Some (key x l)) ∷ has.1)) (sym e);
      })
      (λ (e : v.held ≡ false). let l : ℕ = v.number in let all = at_home key t b v words homes l ok e in record {
        act = keeps;
        valid = tt;
        long = refl;
        others = λ m i a ne. refl;
        ok = record { sound = sound_left t b v l ok.sound; word = word; keys = λ i y a c d f g. all.keys i y a c d f; empty = all.empty; laid = all.laid; away = λ h y f _. all.away h y f };
        hand = ap (λ (h : Bool). laid_down h me.1) (sym e);
      })
    where
      either_bool : (h : Bool) {X : Type 0} → (h ≡ true → X) → (h ≡ false → X) → X
      either_bool true f g = f refl
      either_bool false f g = g refl

  -- a lane is left, and nobody has it then
  pub leaves_as : (slots id : ℕ) (me : SeatState B K A) (v : LaneView B A) (new : ℕ) → me.0.lane ≡ Some v → v.begun ≡ true → Carries me v → new ≡ gone
      → AllowsEvent key slots id me (lane_word v.number) (λ _. new) (λ _. does.Leave v.number ∷ []) (λ _. Leaves (step slots (lane_word v.number) new 0 none) me new)
  leaves_as slots id me v new is begun carried new_is s r deep at fits =
      let o = lane_ok key s r id me.0 v at is in let ok = o.4 in
      let l : ℕ = v.number in let b : Account K A = r.account l in let at_word : ℕ = lane_word l in let small = o.0 in let wide = r.wide in
      let words : List ℕ = set s.words at_word new in
      let gone_now = leaves_it r.tail b v s.words words s.homes me small r.some_places r.deep o.2 ok carried (get_or-set_same s.words at_word new 0 (omega arith) ∙ new_is) in (
        without_lane me.0,
        gone_now.act,
        gone_now.valid,
        (let kept = one_laned key s r l b (left v) id me.0 me.0.writer None words (homes_after s.homes me.1 gone_now.act) small at (length-set s.words at_word new) gone_now.long (get_or-set_other s.words at_word 0 new 0 (λ e. omega arith)) (λ m ne. get_or-set_other s.words at_word (lane_word m) new 0 (λ e. ne (omega arith))) gone_now.others
            (inr refl) (inl o.1)
            (same_writer key r.tail r.seat r.account r.lane r.lane_seat l b (left v) id refl me.0.writer (r.each_seat id me.0 at).writer) tt gone_now.ok in
            let to : LaneTo (behind r) (behind kept.0) l (left (r.lane l)) = record { tail = kept.1.tail; accounts = λ m. dite (ℕ_discrete m l) (λ e. subst (λ (k : ℕ). kept.0.account k ≡ r.account k) (sym e) kept.1.account) (kept.1.accounts m); others = kept.1.lanes; lane = subst (λ (z : LaneView B A). kept.0.lane l ≡ left z) o.3 kept.1.lane } in
            (kept.0, leave (behind r) (behind kept.0) l small (ap (λ (z : LaneView B A). z.begun) (sym o.3) ∙ begun) to, refl)),
        (λ w e. (refl, gone_now.hand ∙ ap (λ (z : LaneView B A). laid_down z.held me.1) (same_some v w me.0.lane is e))),
      )

  pub leaves : (slots id : ℕ) (me : SeatState B K A) (v : LaneView B A) (new : ℕ) → me.0.lane ≡ Some v → v.begun ≡ true → HoldsIf key v.held me v → new ≡ gone
      → Allows (Ruled key) slots id me (lane_word v.number) (λ _. new) (λ _. Leaves (step slots (lane_word v.number) new 0 none) me new)
  leaves slots id me v new is begun hand new_is s r deep at fits = let x = leaves_as slots id me v new is begun (carries me v v.held refl hand) new_is s r deep at fits in (x.0, x.1, x.2, x.3.0, x.4)
