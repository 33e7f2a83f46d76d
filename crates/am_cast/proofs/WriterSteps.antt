-- What the writer's steps share.
use Rattle.std.proofs.Common.{[], ◌≡◌, ◌≢◌, ℕ, List, length, get_or, set, sym, refl, ap, ◌∙◌, subst, Option, Some, None, Bool, true, false, length-set, arith}
use mathlib.Core.Option.{some, some-injective}
use mathlib.Core.Option as maybe
use lib.ListN.{get_elem?}
use lib.Seq.{set-get_or}
use Rattle.atomic_table.specs.Table.{keeps, stepped}
use Rattle.atomic_table.proofs.Lists.{set_else}
use Rattle.am_cast.specs.declared.views.Tail.{Tail}
use Rattle.am_cast.specs.declared.views.Account.{Account}
use Rattle.am_cast.specs.declared.views.WriterView.{WriterView}
use Rattle.am_cast.specs.declared.views.LaneView.{LaneView}
use Rattle.am_cast.specs.declared.views.View.{View}
use Rattle.am_steps.specs.declared.event.Event as event
use Rattle.am_cast.specs.Core.{poster_behind}
use Rattle.am_cast.specs.Rule.{gone, Homes, slot, lane_word, writer_word, shown, Numbers, LaneOk, Ruled}
use Rattle.am_cast.specs.Changes.{with_writer, with_account, loaded}
use Rattle.am_cast.proofs.Events.{Behind, behind, AccountTo, Event, work, SameAccount}
use Rattle.am_cast.specs.Steps.{SeatState, KnowsOf}
use Rattle.am_cast.proofs.Slots.{other_lane}
use Rattle.am_cast.proofs.Kept.{St, same_some, WriterOk, writer_stepped}

pub none_some : {X : Type 0} (x : X) → None ≡ Some x → ⊥
none_some {X} x e = grind arith

-- a word other than the greatest is a lane's that is here
pub here_of : (h : Bool) (n m : ℕ) → n ≡ shown h m → n ≢ gone → (h ≡ true) × (n ≡ m)
here_of h n m e ne = grind arith

pub either_bool' : (h : Bool) {X : Type 0} → (h ≡ true → X) → (h ≡ false → X) → X
either_bool' true f g = f refl
either_bool' false f g = g refl

module _ {B K A : Type 0} where
  -- what is said of one account is said of the same under another name
  pub retell : (P : ℕ → WriterView B K A → Account K A → Type 0) (w : View B K A) (l l' : ℕ) (q q' : WriterView B K A) (b b' : Account K A) → KnowsOf w l q b → KnowsOf w l' q' b' → l ≡ l' → P l q b → P l' q' b'
  retell P w l l' q q' b b' k k' e p = grind (arith, same_some, some-injective)

  -- what a account becomes, by what it was
  pub to_account : {c d : Behind B K A} {l : ℕ} {b : Account K A} (f : Account K A → Account K A) → b ≡ c.account l → AccountTo c d l (f b) → AccountTo c d l (f (c.account l))
  to_account f e t = record { tail = t.tail; lanes = t.lanes; others = t.others; account = t.account ∙ ap f e }

  pub counts_loaded : (t : Tail B) (b : Account K A) → Numbers t b → Numbers t (loaded b)
  counts_loaded t b c = grind arith

module _ {B K A : Type 0} (key : B → ℕ → K) where
  pub lane_loaded : (t : Tail B) (b : Account K A) (v : LaneView B A) (words words' : List ℕ) (homes : Homes K) (l : ℕ) → get_or words' (lane_word l) 0 ≡ get_or words (lane_word l) 0 → LaneOk key t b v words homes l → LaneOk key t (loaded b) v words' homes l
  lane_loaded t b v words words' homes l same ok = grind (arith, counts_loaded)

  -- a lane's word is found, and stays
  pub record Found (s : St B K A) (r : Ruled key s) (id : ℕ) (me : SeatState B K A) (l : ℕ) (es : ℕ → List (event.Event B)) (P : View B K A → Type 0) : Type 0 where
    pub view : View B K A
    pub kept : Ruled key (stepped s (lane_word l) (get_or s.words (lane_word l) 0) id me.1 view keeps)
    pub event : Event B K A (behind r) (es (get_or s.words (lane_word l) 0)) (behind kept)
    pub poster : poster_behind view ≡ poster_behind me.0
    pub tells : P view

  pub same_words : (s : St B K A) (r : Ruled key s) (id l : ℕ) (me : SeatState B K A) (q : WriterView B K A) (b b' : Account K A) → get_elem? s.views id ≡ some me.0 → WriterOk key s r id l q b
      → ((words' : List ℕ) → get_or words' (lane_word l) 0 ≡ get_or s.words (lane_word l) 0 → LaneOk key r.tail b' (r.lane l) words' s.homes l)
      → (p : Ruled key (stepped s (lane_word l) (get_or s.words (lane_word l) 0) id me.1 (with_writer (with_account l b' q) me.0) keeps)) × AccountTo (behind r) (behind p) l b'
  same_words s r id l me q b b' at o here =
      let words : List ℕ = set s.words (lane_word l) (get_or s.words (lane_word l) 0) in let same : words ≡ s.words = set-get_or s.words (lane_word l) 0 in
      writer_stepped key s r id me.0 l q b b' words s.homes at o (ap length same) refl (ap (λ (ws : List ℕ). get_or ws 0 0) same) (λ m _. ap (λ (ws : List ℕ). get_or ws (lane_word m) 0) same) (λ m i a c. refl)
      (here words (ap (λ (ws : List ℕ). get_or ws (lane_word l) 0) same))

  -- the writer's load for one of its slots: the slot of the place i becomes h
  pub slot_step : (s : St B K A) (r : Ruled key s) (id l : ℕ) (me : SeatState B K A) (q : WriterView B K A) (b b' : Account K A) (i : ℕ) (h : maybe.Option (Option K)) → get_elem? s.views id ≡ some me.0 → WriterOk key s r id l q b
      → ((words' : List ℕ) → get_or words' (lane_word l) 0 ≡ get_or s.words (lane_word l) 0 → LaneOk key r.tail b' (r.lane l) words' (set s.homes (slot r.tail.places l i) h) l)
      → SameAccount b b' → (p : Ruled key record { words = set s.words (writer_word l) (get_or s.words (writer_word l) 0); homes = set s.homes (slot r.tail.places l i) h; views = set s.views id (with_writer (with_account l b' q) me.0) }) × Event B K A (behind r) [] (behind p) × (poster_behind (with_writer (with_account l b' q) me.0) ≡ poster_behind me.0)
  slot_step s r id l me q b b' i h at o here alike =
      let words : List ℕ = set s.words (writer_word l) (get_or s.words (writer_word l) 0) in let same : words ≡ s.words = set-get_or s.words (writer_word l) 0 in let small = o.small in
      let kept = writer_stepped key s r id me.0 l q b b' words (set s.homes (slot r.tail.places l i) h) at o (ap length same) (length-set s.homes (slot r.tail.places l i) h) (ap (λ (ws : List ℕ). get_or ws 0 0) same) (λ m _. ap (λ (ws : List ℕ). get_or ws (lane_word m) 0) same)
      (λ m j a ne. set_else s.homes (slot r.tail.places l i) (slot r.tail.places m j) h (other_lane r.tail.places m l j i a small ne))
      (here words (ap (λ (ws : List ℕ). get_or ws (lane_word l) 0) same)) in
      (kept.0, work (behind r) (behind kept.0) l b' (subst (λ (c : Account K A). SameAccount c b') (sym o.account) alike) kept.1, refl)
