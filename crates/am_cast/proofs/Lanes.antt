-- What the steps of a lane share.
use Rattle.std.proofs.Common.{◌≡◌, ◌≢◌, ℕ, suc, ◌+◌, ◌*◌, ◌/◌, ◌<◌, ◌≤◌, List, length, set, sym, refl, ap, ◌∙◌, arith, Some, None, true, false, true≢false}
use mathlib.Core.Logic.{dite}
use mathlib.Core.Option.{some, some-injective}
use native.Mathlib.Decide.{ℕ_discrete}
use lib.ListN.{get_elem?}
use Rattle.atomic_table.proofs.Lists.{set_here, set_else}
use Rattle.am_cast.specs.declared.limits.TheConstants.{LANES}
use Rattle.am_cast.specs.declared.views.Tail.{Tail}
use Rattle.am_cast.specs.declared.views.Account.{Account}
use Rattle.am_cast.specs.declared.views.LaneView.{LaneView}
use Rattle.am_cast.specs.Rule.{idle, live, cut, vacated, Homes, Has, slot, Sound, LaneOk}
use Rattle.am_cast.proofs.Events.{Behind, LaneTo}
use Rattle.am_cast.proofs.Slots.{apart, one_turn_on, slot_inside, prefix_length, prefix_at}

pub live_of : (n : ℕ) → n < 4 → n ≢ idle → n ≢ vacated → n / 2 ≡ 0 → n ≡ live
live_of n a b c d = omega arith

pub cut_of : (n : ℕ) → n < 4 → n ≢ idle → n ≢ live → n ≢ vacated → n ≡ cut
cut_of n a b c d = omega arith

module _ {B K A : Type 0} where
  -- what a lane becomes, by what it was
  pub to_lane : {c d : Behind B K A} {l : ℕ} {v : LaneView B A} (f : LaneView B A → LaneView B A) → v ≡ c.lane l → LaneTo c d l (f v) → LaneTo c d l (f (c.lane l))
  to_lane f e t = record { tail = t.tail; accounts = t.accounts; others = t.others; lane = t.lane ∙ ap f e }

module _ {B K A : Type 0} (key : B → ℕ → K) where
  -- the slot of a held key, as a place of the writer's window
  pub record HeldSlot (t : Tail B) (b : Account K A) (l passed : ℕ) : Type 0 where
    pub at : ℕ
    pub from : b.cleared ≤ at
    pub to : at < b.cleared + t.places
    pub same : slot t.places l passed ≡ slot t.places l at
    pub old : (i : ℕ) → i < b.stop → i ≢ passed → i ≢ at
    pub new : (i : ℕ) → b.stop ≤ i → (b.away ≡ true → i ≢ b.known + t.places) → i ≢ at

  pub held_slot : (t : Tail B) (b : Account K A) (v : LaneView B A) (l : ℕ) → Sound t b v l → b.stand ≢ idle → v.held ≡ true → HeldSlot t b l v.passed
  held_slot t b v l sd used held =
      let stands = sd.counts.stands in let holds = (sd.seen.holds held).1 in let long = prefix_length v.front t.log sd.seen.begins in
      let mid = sd.mid in let room = sd.counts.room in let clear = sd.counts.clear in dite (ℕ_discrete b.stand live)
      (λ alive. let lives = sd.counts.lives alive in let stop = lives.0 in let cleared = lives.1 in record {
        at = v.passed;
        from = omega arith;
        to = omega arith;
        same = refl;
        old = λ i a ne. ne;
        new = λ i a _ e. omega arith;
      })
      (λ dead. let there = (sd.seen.holds held).0 in let severed : b.stand ≡ cut = cut_of b.stand stands used dead (λ e. true≢false (sym there ∙ sd.vacates e)) in let k = sd.keeps severed held in let aways = sd.counts.aways k.0 in let is = k.1 in let stop = aways.1 in let above = aways.2 in record {
        at = b.known + t.places;
        from = omega arith;
        to = omega arith;
        same = ap (λ (i : ℕ). slot t.places l i) is ∙ sym (one_turn_on t.places l b.known);
        old = λ i a _ e. omega arith;
        new = λ i _ f. f k.0;
      })

  -- all of a lane's keys are at home
  pub record AllHome (t : Tail B) (b : Account K A) (homes : Homes K) (l : ℕ) : Type 0 where
    pub keys : (i : ℕ) (x : B) → b.cleared ≤ i → i < b.stop → get_elem? t.log i ≡ some x → b.out ≢ suc i → Has homes t.places l i (Some (key x l))
    pub empty : (i : ℕ) → b.stop ≤ i → i < b.cleared + t.places → b.out ≢ suc i → (b.away ≡ true → i ≢ b.known + t.places) → (i ≡ b.stop → b.laid ≡ None) → Has homes t.places l i None
    pub laid : (k : K) → b.laid ≡ Some k → Has homes t.places l b.stop (Some k)
    pub away : b.away ≡ true → (x : B) → get_elem? t.log b.known ≡ some x → Has homes t.places l b.known (Some (key x l))

  pub at_home : (t : Tail B) (b : Account K A) (v : LaneView B A) (words : List ℕ) (homes : Homes K) (l : ℕ) → LaneOk key t b v words homes l → v.held ≡ false → AllHome t b homes l
  at_home t b v words homes l ok held = grind (arith, true≢false)

  -- the key in hand goes home
  pub comes_home : (t : Tail B) (b : Account K A) (v : LaneView B A) (words : List ℕ) (homes : Homes K) (l : ℕ) (x : B) → l < LANES → 0 < t.places → length homes ≡ LANES * t.places → LaneOk key t b v words homes l → b.stand ≢ idle → v.held ≡ true → get_elem? v.front v.passed ≡ some x
      → AllHome t b (set homes (slot t.places l v.passed) (some (Some (key x l)))) l
  comes_home t b v words homes l x small pos deep ok used held next =
      let sd = ok.sound in let k : ℕ = slot t.places l v.passed in let p : ℕ = t.places in
      let h = held_slot t b v l sd used held in let room = sd.counts.room in let clear = sd.counts.clear in
      let there : get_elem? t.log v.passed ≡ some x = prefix_at v.front t.log v.passed x sd.seen.begins next in
      let homes' : Homes K = set homes k (some (Some (key x l))) in
      let here : (i : ℕ) (y : B) → i ≡ v.passed → get_elem? t.log i ≡ some y → Has homes' p l i (Some (key y l)) =
      grind (arith, some-injective, set_here, slot_inside) in
      let beside : (i : ℕ) → b.cleared ≤ i → i < b.cleared + p → i ≢ h.at → get_elem? homes' (slot p l i) ≡ get_elem? homes (slot p l i) =
      λ i a c ne. set_else homes k (slot p l i) (some (Some (key x l))) (λ e. apart p l b.cleared i h.at a c h.from h.to ne (e ∙ h.same)) in record {
        keys = grind arith;
        empty = λ i a c d e f. beside i (omega arith) c (h.new i a e) ∙ ok.empty i a c d e f;
        laid = grind arith;
        away = λ e y f. let c = (sd.counts.aways e).0 in here b.known y (sym (sd.keeps c held).1) f;
      }
