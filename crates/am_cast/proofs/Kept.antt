-- A step that touches one lane keeps the rule.
use Rattle.std.proofs.Common.{◌≡◌, ◌≢◌, ℕ, ◌<◌, ◌⊎◌, List, length, get_or, set, sym, refl, ap, ◌∙◌, subst, ⊎_elim, inl, inr, arith, Option, Some, None, true, false, true≢false, length-set}
use mathlib.Core.Logic.{dite}
use mathlib.Core.Option.{some, some-injective}
use native.Mathlib.Decide.{ℕ_discrete}
use lib.ListN.{get_elem?}
use Rattle.atomic_table.specs.Table.{State}
use Rattle.atomic_table.proofs.Lists.{at_set, set_here, set_else}
use Rattle.am_cast.specs.declared.limits.TheConstants.{LANES}
use Rattle.am_cast.specs.declared.views.Tail.{Tail}
use Rattle.am_cast.specs.declared.views.Account.{Account}
use Rattle.am_cast.specs.declared.views.WriterView.{WriterView}
use Rattle.am_cast.specs.declared.views.LaneView.{LaneView}
use Rattle.am_cast.specs.declared.views.View.{View}
use Rattle.am_cast.specs.Rule.{idle, Homes, slot, lane_word, LaneOk, HasWriter, HasLane, SeatOk, Ruled}
use Rattle.am_cast.specs.Changes.{with_account}
use Rattle.am_cast.proofs.Events.{behind, LaneTo, AccountTo, BothTo}
use Rattle.am_cast.specs.Steps.{KnowsOf}
use Rattle.am_cast.proofs.Slots.{put, put_here, put_else, put_same, at_length}

pub same_some : {X : Type 0} (x y : X) (o : Option X) → o ≡ Some x → o ≡ Some y → x ≡ y
same_some x y o e f = grind arith

abbrev pub St : Type 0 → Type 0 → Type 0 → Type 0
St B K A = State (Option K) (View B K A)

module _ {B K A : Type 0} (key : B → ℕ → K) where
  -- a lane whose word and slots a step does not touch
  pub stays : (t : Tail B) (b : Account K A) (v : LaneView B A) (words words' : List ℕ) (homes homes' : Homes K) (l : ℕ) → get_or words' (lane_word l) 0 ≡ get_or words (lane_word l) 0
      → ((i : ℕ) → get_elem? homes' (slot t.places l i) ≡ get_elem? homes (slot t.places l i)) → LaneOk key t b v words homes l → LaneOk key t b v words' homes' l
  stays t b v words words' homes homes' l word same ok = grind arith

  pub other_writer : (t : Tail B) (seat : ℕ) (account : ℕ → Account K A) (lane : ℕ → LaneView B A) (lane_seat : ℕ → ℕ) (l : ℕ) (b' : Account K A) (v' : LaneView B A) (id j : ℕ) → j ≢ id → (id ≡ seat) ⊎ (b' ≡ account l) → (dk : Option (WriterView B K A))
      → HasWriter t seat account lane lane_seat j dk → HasWriter t seat (put account l b') (put lane l v') lane_seat j dk
  other_writer t seat account lane lane_seat l b' v' id j ne why dk k = grind (arith, put_same)

  pub other_lane_is : (t : Tail B) (seat : ℕ) (account : ℕ → Account K A) (lane : ℕ → LaneView B A) (lane_seat : ℕ → ℕ) (l : ℕ) (b' : Account K A) (v' : LaneView B A) (id j : ℕ) → j ≢ id
      → (lane_seat l ≡ id) ⊎ (v' ≡ lane l) → (ln : Option (LaneView B A))
      → HasLane t seat account lane lane_seat j ln → HasLane t seat (put account l b') (put lane l v') lane_seat j ln
  other_lane_is t seat account lane lane_seat l b' v' id j ne why ln k = grind (arith, put_same, put_here, put_else)

  -- a step that changes the lane l, what the writer knows of it, and one view
  unfoldable pub one_lane : (s : St B K A) (r : Ruled key s) (l : ℕ) (b' : Account K A) (v' : LaneView B A) (id : ℕ) (u : View B K A) (dk : Option (WriterView B K A)) (ln : Option (LaneView B A)) (words' : List ℕ) (homes' : Homes K)
      → l < LANES → get_elem? s.views id ≡ some u → length words' ≡ length s.words → length homes' ≡ length s.homes → get_or words' 0 0 ≡ get_or s.words 0 0
      → ((m : ℕ) → m ≢ l → get_or words' (lane_word m) 0 ≡ get_or s.words (lane_word m) 0)
      → ((m i : ℕ) → m < LANES → m ≢ l → get_elem? homes' (slot r.tail.places m i) ≡ get_elem? s.homes (slot r.tail.places m i))
      → (id ≡ r.seat) ⊎ (b' ≡ r.account l)
      → (r.lane_seat l ≡ id) ⊎ (v' ≡ r.lane l)
      → HasWriter r.tail r.seat (put r.account l b') (put r.lane l v') r.lane_seat id dk
      → HasLane r.tail r.seat (put r.account l b') (put r.lane l v') r.lane_seat id ln
      → LaneOk key r.tail b' v' words' homes' l
      → Ruled key record { words = words'; homes = homes'; views = set s.views id (record u { writer = dk; lane = ln }) }
  one_lane s r l b' v' id u dk ln words' homes' small at wide deep tail word slots why_account why_lane writer_is lane_is here = record {
    tail = r.tail;
    seat = r.seat;
    account = put r.account l b';
    lane = put r.lane l v';
    lane_seat = r.lane_seat;
    owner = r.owner;
    wide = wide ∙ r.wide;
    deep = deep ∙ r.deep;
    some_places = r.some_places;
    few = r.few;
    word = tail ∙ r.word;
    each_lane = λ m a. dite (ℕ_discrete m l)
        (grind (arith, put_here))
        (λ ne. subst (λ (z : Account K A × LaneView B A). LaneOk key r.tail z.0 z.1 words' homes' m) (λ i. (sym (put_else r.account l b' m ne) i, sym (put_else r.lane l v' m ne) i))
        (stays r.tail (r.account m) (r.lane m) s.words words' s.homes homes' m (word m ne) (λ i. slots m i a ne) (r.each_lane m a)));
    each_seat = λ j w e. let mine = r.each_seat id u at in let account' = put r.account l b' in let lane' = put r.lane l v' in let w' : View B K A = record u { writer = dk; lane = ln } in ⊎_elim
        (λ (t : (j ≡ id) × (w' ≡ w)). subst (λ (z : ℕ × View B K A). SeatOk r.tail r.seat account' lane' r.lane_seat r.owner z.0 z.1) (λ i. (sym t.0 i, t.1 i)) record {
          writer = writer_is;
          lane_is = lane_is;
          noted = mine.noted;
          counts = mine.counts;
          counted = mine.counted;
          heard = mine.heard;
          whole = mine.whole;
          owns = mine.owns;
        })
        (λ (t : (j ≢ id) × (get_elem? s.views j ≡ some w)). let k = r.each_seat j w t.1 in record {
          writer = other_writer r.tail r.seat r.account r.lane r.lane_seat l b' v' id j t.0 why_account w.writer k.writer;
          lane_is = other_lane_is r.tail r.seat r.account r.lane r.lane_seat l b' v' id j t.0 why_lane w.lane k.lane_is;
          noted = k.noted;
          counts = k.counts;
          counted = k.counted;
          heard = k.heard;
          whole = k.whole;
          owns = k.owns;
        })
        (at_set s.views id j w' w e);
  }

  pub same_writer : (t : Tail B) (seat : ℕ) (account : ℕ → Account K A) (lane : ℕ → LaneView B A) (lane_seat : ℕ → ℕ) (l : ℕ) (b' : Account K A) (v' : LaneView B A) (j : ℕ) → b' ≡ account l → (dk : Option (WriterView B K A))
      → HasWriter t seat account lane lane_seat j dk → HasWriter t seat (put account l b') (put lane l v') lane_seat j dk
  same_writer t seat account lane lane_seat l b' v' j e dk k = grind (arith, put_same)

  -- what the rule says of the lane in a view
  pub lane_ok : (s : St B K A) (r : Ruled key s) (id : ℕ) (u : View B K A) (v : LaneView B A) → get_elem? s.views id ≡ some u → u.lane ≡ Some v
      → (v.number < LANES) × (r.lane_seat v.number ≡ id) × ((r.account v.number).stand ≢ idle) × (v ≡ r.lane v.number) × LaneOk key r.tail (r.account v.number) v s.words s.homes v.number
  lane_ok s r id u v at is =
      let k = subst (HasLane r.tail r.seat r.account r.lane r.lane_seat id) is (r.each_seat id u at).lane_is in
      let ok = subst (λ (w : LaneView B A). LaneOk key r.tail (r.account v.number) w s.words s.homes v.number) k.1 (r.each_lane v.number k.0) in
      (k.0, k.2, (λ e. true≢false (sym k.3 ∙ ok.sound.idles e)), sym k.1, ok)

  -- a lane in a view hasn't left
  pub lane_here : (s : St B K A) (r : Ruled key s) (id : ℕ) (u : View B K A) (v : LaneView B A) → get_elem? s.views id ≡ some u → u.lane ≡ Some v → v.here ≡ true
  lane_here s r id u v at is = (subst (HasLane r.tail r.seat r.account r.lane r.lane_seat id) is (r.each_seat id u at).lane_is).3

  pub reseated : (t : Tail B) (seat : ℕ) (account : ℕ → Account K A) (lane : ℕ → LaneView B A) (lane_seat : ℕ → ℕ) (l j i : ℕ) → (lane l).here ≡ false → (ln : Option (LaneView B A)) → HasLane t seat account lane lane_seat i ln → HasLane t seat account lane (put lane_seat l j) i ln
  reseated t seat account lane lane_seat l j i away None k = tt
  reseated t seat account lane lane_seat l j i away (Some v) k = (k.0, k.1, put_else lane_seat l j v.number (λ e. true≢false (sym k.3 ∙ ap (λ (w : LaneView B A). w.here) (sym k.1) ∙ ap (λ (m : ℕ). (lane m).here) e ∙ away)) ∙ k.2, k.3)

  -- a lane that has left may be any seat's
  abbrev pub reseats : (s : St B K A) (r : Ruled key s) (l j : ℕ) → (r.lane l).here ≡ false → Ruled key s
  reseats s r l j away = record r {
    lane_seat = put r.lane_seat l j;
    each_seat = λ i u e. let o = r.each_seat i u e in record { writer = o.writer; lane_is = reseated r.tail r.seat r.account r.lane r.lane_seat l j i away u.lane o.lane_is; noted = o.noted; counts = o.counts; counted = o.counted; heard = o.heard; whole = o.whole; owns = o.owns };
  }

  -- a step of the lane in a view
  unfoldable pub lane_step : (s : St B K A) (r : Ruled key s) (id : ℕ) (u : View B K A) (v v' : LaneView B A) (words' : List ℕ) (homes' : Homes K) → get_elem? s.views id ≡ some u → u.lane ≡ Some v → v'.number ≡ v.number → v'.here ≡ v.here
      → length words' ≡ length s.words → length homes' ≡ length s.homes → get_or words' 0 0 ≡ get_or s.words 0 0
      → ((m : ℕ) → m ≢ v.number → get_or words' (lane_word m) 0 ≡ get_or s.words (lane_word m) 0)
      → ((m i : ℕ) → m < LANES → m ≢ v.number → get_elem? homes' (slot r.tail.places m i) ≡ get_elem? s.homes (slot r.tail.places m i))
      → LaneOk key r.tail (r.account v.number) v' words' homes' v.number
      → Ruled key record { words = words'; homes = homes'; views = set s.views id (record u { lane = Some v' }) }
  lane_step s r id u v v' words' homes' at is number stays_here wide deep tail word slots here =
      let o = lane_ok s r id u v at is in let l : ℕ = v.number in let b : Account K A = r.account l in
      one_lane s r l b v' id u u.writer (Some v') words' homes' o.0 at wide deep tail word slots (inr refl) (inl o.1)
      (same_writer r.tail r.seat r.account r.lane r.lane_seat l b v' id refl u.writer (r.each_seat id u at).writer)
      (let there = stays_here ∙ lane_here s r id u v at is in grind (arith, put_here))
      here

  pub lane_stepped : (s : St B K A) (r : Ruled key s) (id : ℕ) (u : View B K A) (v v' : LaneView B A) (words' : List ℕ) (homes' : Homes K) → get_elem? s.views id ≡ some u → u.lane ≡ Some v → v'.number ≡ v.number → v'.here ≡ v.here
      → length words' ≡ length s.words → length homes' ≡ length s.homes → get_or words' 0 0 ≡ get_or s.words 0 0
      → ((m : ℕ) → m ≢ v.number → get_or words' (lane_word m) 0 ≡ get_or s.words (lane_word m) 0)
      → ((m i : ℕ) → m < LANES → m ≢ v.number → get_elem? homes' (slot r.tail.places m i) ≡ get_elem? s.homes (slot r.tail.places m i))
      → LaneOk key r.tail (r.account v.number) v' words' homes' v.number
      → (q : Ruled key record { words = words'; homes = homes'; views = set s.views id (record u { lane = Some v' }) }) × LaneTo (behind r) (behind q) v.number v'
  unfolding lane_step one_lane
  lane_stepped s r id u v v' words' homes' at is number stays_here wide deep tail word slots here = (
    lane_step s r id u v v' words' homes' at is number stays_here wide deep tail word slots here,
    grind (arith, put_same, put_else, put_here),
  )

  pub same_lane : (t : Tail B) (seat : ℕ) (account : ℕ → Account K A) (lane : ℕ → LaneView B A) (lane_seat : ℕ → ℕ) (l : ℕ) (b' : Account K A) (v' : LaneView B A) (j : ℕ) → v' ≡ lane l → (ln : Option (LaneView B A))
      → HasLane t seat account lane lane_seat j ln → HasLane t seat (put account l b') (put lane l v') lane_seat j ln
  same_lane t seat account lane lane_seat l b' v' j e ln k = grind (arith, put_same, put_here, put_else)

  -- what the rule says of the writer in a view, and of one lane
  pub record WriterOk (s : St B K A) (r : Ruled key s) (id l : ℕ) (q : WriterView B K A) (b : Account K A) : Type 0 where
    pub small : l < LANES
    pub tail : q.tail ≡ r.tail
    pub all : length q.accounts ≡ LANES
    pub each : (m : ℕ) → m < LANES → get_elem? q.accounts m ≡ some (r.account m)
    pub mine : id ≡ r.seat
    pub account : r.account l ≡ b
    pub ok : LaneOk key r.tail b (r.lane l) s.words s.homes l

  pub writer_ok : (s : St B K A) (r : Ruled key s) (id : ℕ) (u : View B K A) (l : ℕ) (q : WriterView B K A) (b : Account K A) → get_elem? s.views id ≡ some u → KnowsOf u l q b → WriterOk s r id l q b
  writer_ok s r id u l q b at has =
      let k = subst (HasWriter r.tail r.seat r.account r.lane r.lane_seat id) has.0 (r.each_seat id u at).writer in
      let inside = at_length q.accounts l b has.1 in grind (arith, some-injective)

  -- the writer with one account changed
  pub sets_account : (s : St B K A) (r : Ruled key s) (id l : ℕ) (q : WriterView B K A) (b b' : Account K A) (v' : LaneView B A) → WriterOk s r id l q b → HasWriter r.tail r.seat (put r.account l b') (put r.lane l v') r.lane_seat id (Some (with_account l b' q))
  sets_account s r id l q b b' v' o = grind (arith, length-set, set_here, put_here, set_else, put_else)

  -- a step of the writer that touches one lane alone
  unfoldable pub writer_step : (s : St B K A) (r : Ruled key s) (id : ℕ) (u : View B K A) (l : ℕ) (q : WriterView B K A) (b b' : Account K A) (words' : List ℕ) (homes' : Homes K) → get_elem? s.views id ≡ some u → WriterOk s r id l q b
      → length words' ≡ length s.words → length homes' ≡ length s.homes → get_or words' 0 0 ≡ get_or s.words 0 0
      → ((m : ℕ) → m ≢ l → get_or words' (lane_word m) 0 ≡ get_or s.words (lane_word m) 0)
      → ((m i : ℕ) → m < LANES → m ≢ l → get_elem? homes' (slot r.tail.places m i) ≡ get_elem? s.homes (slot r.tail.places m i))
      → LaneOk key r.tail b' (r.lane l) words' homes' l
      → Ruled key record { words = words'; homes = homes'; views = set s.views id (record u { writer = Some (with_account l b' q) }) }
  writer_step s r id u l q b b' words' homes' at o wide deep tail word slots here =
      one_lane s r l b' (r.lane l) id u (Some (with_account l b' q)) u.lane words' homes' o.small at wide deep tail word slots (inl o.mine) (inr refl)
      (sets_account s r id l q b b' (r.lane l) o)
      (same_lane r.tail r.seat r.account r.lane r.lane_seat l b' (r.lane l) id refl u.lane (r.each_seat id u at).lane_is)
      here

  pub writer_stepped : (s : St B K A) (r : Ruled key s) (id : ℕ) (u : View B K A) (l : ℕ) (q : WriterView B K A) (b b' : Account K A) (words' : List ℕ) (homes' : Homes K) → get_elem? s.views id ≡ some u → WriterOk s r id l q b
      → length words' ≡ length s.words → length homes' ≡ length s.homes → get_or words' 0 0 ≡ get_or s.words 0 0
      → ((m : ℕ) → m ≢ l → get_or words' (lane_word m) 0 ≡ get_or s.words (lane_word m) 0)
      → ((m i : ℕ) → m < LANES → m ≢ l → get_elem? homes' (slot r.tail.places m i) ≡ get_elem? s.homes (slot r.tail.places m i))
      → LaneOk key r.tail b' (r.lane l) words' homes' l
      → (p : Ruled key record { words = words'; homes = homes'; views = set s.views id (record u { writer = Some (with_account l b' q) }) }) × AccountTo (behind r) (behind p) l b'
  unfolding writer_step one_lane
  writer_stepped s r id u l q b b' words' homes' at o wide deep tail word slots here = (
    writer_step s r id u l q b b' words' homes' at o wide deep tail word slots here,
    grind (arith, put_same, put_else, put_here),
  )

  pub one_laned : (s : St B K A) (r : Ruled key s) (l : ℕ) (b' : Account K A) (v' : LaneView B A) (id : ℕ) (u : View B K A) (dk : Option (WriterView B K A)) (ln : Option (LaneView B A)) (words' : List ℕ) (homes' : Homes K)
      → l < LANES → get_elem? s.views id ≡ some u → length words' ≡ length s.words → length homes' ≡ length s.homes → get_or words' 0 0 ≡ get_or s.words 0 0
      → ((m : ℕ) → m ≢ l → get_or words' (lane_word m) 0 ≡ get_or s.words (lane_word m) 0)
      → ((m i : ℕ) → m < LANES → m ≢ l → get_elem? homes' (slot r.tail.places m i) ≡ get_elem? s.homes (slot r.tail.places m i))
      → (id ≡ r.seat) ⊎ (b' ≡ r.account l)
      → (r.lane_seat l ≡ id) ⊎ (v' ≡ r.lane l)
      → HasWriter r.tail r.seat (put r.account l b') (put r.lane l v') r.lane_seat id dk
      → HasLane r.tail r.seat (put r.account l b') (put r.lane l v') r.lane_seat id ln
      → LaneOk key r.tail b' v' words' homes' l
      → (q : Ruled key record { words = words'; homes = homes'; views = set s.views id (record u { writer = dk; lane = ln }) }) × BothTo (behind r) (behind q) l v' b'
  unfolding one_lane
  one_laned s r l b' v' id u dk ln words' homes' small at wide deep tail word slots why_account why_lane writer_is lane_is here = (
    one_lane s r l b' v' id u dk ln words' homes' small at wide deep tail word slots why_account why_lane writer_is lane_is here,
    grind (arith, put_else, put_here),
  )
