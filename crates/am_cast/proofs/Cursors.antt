-- What a cursor has taken.
use Rattle.std.proofs.Common.{◌≡◌, ℕ, zero, suc, ◌+◌, ◌-◌, ◌<◌, ◌≤◌, List, [], ◌∷◌, ◌++◌, length, take, drop, sym, refl, ap, ◌∙◌, subst, arith, Bool, true, false, add-one, append_assoc, Option, Some, None, is_some, slice_get}
use Rattle.std.proofs.lemmas.Bool.{false≢true}
use Rattle.std.proofs.lemmas.List.{drop_all}
use mathlib.Core.Option.{some, some-ne-none, some-injective}
use mathlib.Core.List.{IsPrefix}
use lib.ListN.{get_elem?}
use lib.Seq.{take-append-le}
use Rattle.am_segment.specs.Segments.{KeyView}
use Rattle.am_cast.specs.declared.batch_view.BatchView.{BatchView}
use Rattle.am_cast.specs.declared.lends.Moved.{Moved}
use Rattle.am_cast.specs.declared.lends.Moved.TheVariants.{One, Pending, Closed, Cut}
use Rattle.am_cast.specs.declared.views.LaneView.{LaneView}
use Rattle.am_cast.specs.declared.views.Account.{Account}
use Rattle.am_cast.specs.declared.limits.TheConstants.{LONGEST_LOG}
use Rattle.am_cast.specs.declared.views.Tail.{Tail}
use Rattle.am_cast.specs.Rule.{Sound, first_lane, slot}
use Rattle.am_cast.specs.Changes.{seeing, holding, left, with_lane}
use Rattle.am_cast.specs.Seats.{HoldsKey, HoldsIf, Took, lane_of, some_or}
use Rattle.am_cast.specs.Keys.{batch_items, all_items, key_of}
use Rattle.am_cast.specs.Steps.{SeatState}
use Rattle.atomic_table.specs.Seated.{TableId}
use Rattle.am_cast.specs.declared.views.View.{View}
use Rattle.am_cast.specs.Cursors.{CursorView, items_at, shown_items, HasEnded}
use Rattle.am_cast.specs.inside.Cursors.{CursorOk, HasHand}
use Rattle.am_cast.specs.Lent.{IsItem, IsInHand, Moves}
use Rattle.am_cast.specs.inside.Moving.{NeedsLook, AfterLook}
use Rattle.atomic_table.specs.Table.{rest}
use Rattle.am_cast.proofs.Slots.{at_below, at_length, prefix_at, prefix_length}
use Rattle.std.proofs.lemmas.Grind.{common_steps}

module _ {X : Type 0} where
  pub take_more : (xs : List X) (n : ℕ) (x : X) → get_elem? xs n ≡ some x → take (suc n) xs ≡ take n xs ++ x ∷ []
  take_more [] n x e = absurd (some-ne-none x (sym e))
  take_more (y ∷ ys) zero x e = ap (λ (z : X). z ∷ []) (some-injective y x e)
  take_more (y ∷ ys) (suc n) x e = ap (λ (l : List X). y ∷ l) (take_more ys n x e)

  pub take_length : (xs : List X) (n : ℕ) → n ≤ length xs → length (take n xs) ≡ n
  take_length xs zero h = refl
  take_length [] (suc n) h = absurd (omega arith)
  take_length (x ∷ xs) (suc n) h = ap suc (take_length xs n (omega arith))

  pub drop_end : (l : List X) (s : ℕ) (y : X) → s ≤ length l → drop s (l ++ y ∷ []) ≡ drop s l ++ y ∷ []
  drop_end l zero y h = refl
  drop_end [] (suc s) y h = absurd (omega arith)
  drop_end (x ∷ xs) (suc s) y h = drop_end xs s y (omega arith)

  pub take_front : (xs ys : List X) (n : ℕ) → IsPrefix xs ys → n ≤ length xs → take n ys ≡ take n xs
  take_front xs ys n p h = ap (λ (l : List X). take n l) (sym p.1) ∙ take-append-le n xs p.0 h

  pub append_none : (xs : List X) → xs ++ [] ≡ xs
  append_none [] = refl
  append_none (x ∷ xs) = ap (λ (l : List X). x ∷ l) (append_none xs)

  one_is : (x y : X) → Some x ≡ Some y → x ≡ y
  one_is x y e = cc

  none_is : (x : X) → None ≡ Some x → ⊥
  none_is x e = cc

  -- one item more
  pub take_get : (xs : List X) (n : ℕ) (x : X) → slice_get xs n ≡ Some x → take (suc n) xs ≡ take n xs ++ x ∷ []
  take_get [] n x e = absurd (none_is x e)
  take_get (y ∷ ys) zero x e = ap (λ (z : X). z ∷ []) (one_is y x e)
  take_get (y ∷ ys) (suc n) x e = ap (λ (l : List X). y ∷ l) (take_get ys n x e)

  -- an item of an index within
  pub get_there : (xs : List X) (n : ℕ) → n < length xs → (x : X) × (slice_get xs n ≡ Some x)
  get_there [] n low = absurd (omega arith)
  get_there (x ∷ xs) zero low = (x, refl)
  get_there (x ∷ xs) (suc n) low = get_there xs n (omega arith)

  pub take_all : (xs : List X) (n : ℕ) → n ≡ length xs → take n xs ≡ xs
  take_all xs n e = grind (arith, common_steps)

module _ {T P : Type 0} where
  items_end : (xs : List (BatchView T P)) (x : BatchView T P) → all_items (xs ++ x ∷ []) ≡ all_items xs ++ batch_items x
  items_end [] x = append_none (batch_items x)
  items_end (y ∷ ys) x = ap (λ (l : List T). batch_items y ++ l) (items_end ys x) ∙ sym (append_assoc (batch_items y) (all_items ys) (batch_items x))

  pub items_here : (front : List (BatchView T P)) (i : ℕ) (x : BatchView T P) → get_elem? front i ≡ some x → items_at front i ≡ batch_items x
  items_here [] i x e = absurd (some-ne-none x (sym e))
  items_here (y ∷ ys) zero x e = append_none (batch_items y) ∙ ap (λ (y : BatchView T P). batch_items y) (some-injective y x e)
  items_here (y ∷ ys) (suc i) x e = items_here ys i x e

  -- a place has the same items in a longer log
  pub items_saw : (front front' : List (BatchView T P)) (i : ℕ) → IsPrefix front front' → i < length front → items_at front' i ≡ items_at front i
  items_saw front front' i p low = let at = at_below front i low in items_here front' i at.0 (prefix_at front front' i at.0 p at.1) ∙ sym (items_here front i at.0 at.1)

  some_there : (front : List (BatchView T P)) (i : ℕ) (x : BatchView T P) → get_elem? front i ≡ some x → 1 ≤ length (items_at front i)
  some_there front i x e = let long : length (items_at front i) ≡ suc (length x.others) = ap (λ (l : List T). length l) (items_here front i x e) in omega arith

  items_before : (front : List (BatchView T P)) (s i : ℕ) (x : BatchView T P) → get_elem? front i ≡ some x → s ≤ i → all_items (drop s (take (suc i) front)) ≡ all_items (drop s (take i front)) ++ batch_items x
  items_before front s i x e low = let inside = at_length front i x e in let long = take_length front i (omega arith) in
      ap (λ (l : List (BatchView T P)). all_items (drop s l)) (take_more front i x e) ∙ ap (λ (l : List (BatchView T P)). all_items l) (drop_end (take i front) s x (omega arith)) ∙ items_end (drop s (take i front)) x

module _ {T P A : Type 0} where
  -- a place is passed, all of whose items were shown
  pub taken_pass : (c d : CursorView T P A) (x : BatchView T P) → get_elem? c.lane.front c.lane.passed ≡ some x → c.lane.start ≤ c.lane.passed → c.shown ≡ length (items_at c.lane.front c.lane.passed)
      → d.lane.front ≡ c.lane.front → d.lane.start ≡ c.lane.start → d.lane.passed ≡ c.lane.passed + 1 → d.shown ≡ 0 → shown_items d ≡ shown_items c
  taken_pass c d x there low all front start passed shown =
      (λ i. all_items (drop (start i) (take (passed i) (front i))) ++ take (shown i) (items_at (front i) (passed i)))
      ∙ append_none (all_items (drop c.lane.start (take (c.lane.passed + 1) c.lane.front))) ∙ ap (λ (n : ℕ). all_items (drop c.lane.start (take n c.lane.front))) (add-one c.lane.passed)
      ∙ items_before c.lane.front c.lane.start c.lane.passed x there low
      ∙ ap (λ (l : List T). all_items (drop c.lane.start (take c.lane.passed c.lane.front)) ++ l) (sym (take_all (items_at c.lane.front c.lane.passed) c.shown all ∙ items_here c.lane.front c.lane.passed x there))

  -- the log is longer than it was seen
  pub taken_look : (c m : CursorView T P A) → m.lane ≡ seeing m.lane.front m.lane.told c.lane → m.shown ≡ 0 → c.shown ≡ 0 → IsPrefix c.lane.front m.lane.front → c.lane.passed ≤ length c.lane.front → shown_items m ≡ shown_items c
  taken_look c m lane none₁ none₂ p h = grind (arith, take_front)

  -- the first item of a place
  pub taken_first : (c d : CursorView T P A) (x : T) → d ≡ record { lane = holding c.lane; shown = 1 } → c.shown ≡ 0 → IsInHand d x → shown_items d ≡ shown_items c ++ x ∷ []
  taken_first c d x e none_shown at = grind (arith, take_get, append_none)

  -- a place is taken, of which the first item is shown
  pub takes_first : (c d : CursorView T P A) → d ≡ record { lane = holding c.lane; shown = 1 } → c.shown ≡ 0 → c.lane.cut ≡ false → c.lane.passed < length c.lane.front → IsItem c d
  takes_first c d e none_shown uncut below = let at = at_below c.lane.front c.lane.passed below in record {
    held = ap (λ (d : CursorView T P A). d.lane.held) e;
    there = subst (λ (d : CursorView T P A). (x : T) × IsInHand d x) (sym e) (get_there (items_at c.lane.front c.lane.passed) 0 (some_there c.lane.front c.lane.passed at.0 at.1));
    taken = λ x is. taken_first c d x e none_shown is;
    was_open = λ h. (absurd (omega arith));
    was_uncut = λ h. false≢true (sym uncut ∙ h.0);
  }

  -- the next item of a place
  pub taken_next : (c d : CursorView T P A) (x : T) → d ≡ record c { shown = c.shown + 1 } → IsInHand d x → shown_items d ≡ shown_items c ++ x ∷ []
  taken_next c d x e at = let back : c.shown + 1 - 1 ≡ c.shown = omega arith in
      grind (arith, take_get, append_assoc)

  pub shows_next : (c d : CursorView T P A) → c.lane.held ≡ true → c.shown < length (items_at c.lane.front c.lane.passed) → d ≡ record c { shown = c.shown + 1 } → IsItem c d
  shows_next c d held low e = record {
    held = ap (λ (d : CursorView T P A). d.lane.held) e ∙ held;
    there = subst (λ (d : CursorView T P A). (x : T) × IsInHand d x) (sym e) (get_there (items_at c.lane.front c.lane.passed) (c.shown + 1 - 1) (omega arith));
    taken = λ x at. taken_next c d x e at;
    was_open = λ h. false≢true (sym h.2 ∙ held);
    was_uncut = λ h. false≢true (sym h.1 ∙ held);
  }

  -- what a look answers, after all that was seen is passed
  pub found_moves : (c s m d : CursorView T P A) (r : Moved) → NeedsLook c s → m.lane ≡ seeing m.lane.front m.lane.told s.lane → m.shown ≡ s.shown → IsPrefix s.lane.front m.lane.front → AfterLook m d r → Moves c d r
  found_moves c s m d r needs lane shown p f = go r f
    where
      same : shown_items m ≡ shown_items c
      same = let at = needs.all in taken_look s m lane (shown ∙ needs.shown) needs.shown p (omega arith) ∙ needs.taken

      go : (r : Moved) → AfterLook m d r → Moves c d r
      go One t = record { held = t.held; there = t.there; taken = λ x at. t.taken x at ∙ ap (λ (l : List T). l ++ x ∷ []) same; was_open = needs.was_open; was_uncut = needs.was_uncut }
      go Pending t = record {
        taken = ap (λ (c : CursorView T P A). shown_items c) t.0 ∙ same;
        looks = grind arith;
        told = ap (λ (c : CursorView T P A). c.lane.told) t.0 ∙ t.1;
        all = ap (λ (c : CursorView T P A). c.lane.passed) t.0 ∙ t.2 ∙ ap (λ (c : CursorView T P A). length c.lane.front) (sym t.0);
        held = ap (λ (c : CursorView T P A). c.lane.held) t.0 ∙ ap (λ (v : LaneView (BatchView T P) A). v.held) lane ∙ needs.held;
        cut = ap (λ (c : CursorView T P A). c.lane.cut) t.0 ∙ ap (λ (v : LaneView (BatchView T P) A). v.cut) lane ∙ needs.cut;
        was_open = needs.was_open;
        was_uncut = needs.was_uncut;
      }
      go Closed t = record { taken = ap (λ (c : CursorView T P A). shown_items c) t.0 ∙ same; ended = subst (λ (c : CursorView T P A). HasEnded c) (sym t.0) t.1; was_uncut = needs.was_uncut }
      go Cut t = record { taken = t.taken ∙ same; cut = t.cut; was_open = needs.was_open }

  -- a hand is the same by another view of its lane's seat
  same_hand : (m m' : SeatState (BatchView T P) (KeyView T) A) (v : LaneView (BatchView T P) A) (shown : ℕ) (hand : Option ℕ) → m'.1 ≡ m.1 → HasHand m v shown hand → HasHand m' v shown hand
  same_hand m m' v shown (Some count) e has = (has.0, (has.1.0, has.1.1, e ∙ has.1.2), has.2, has.3, has.4)
  same_hand m m' v shown None e has = (has.0, e ∙ has.1, has.2)

  -- and so are a cursor's fields
  pub same_cursor : (table seat_table seat_table' : TableId) (m m' : SeatState (BatchView T P) (KeyView T) A) (number places passed seen shown : ℕ) (closed cut : Bool) (hand : Option ℕ) → CursorOk table seat_table m number places passed seen shown closed cut hand
      → seat_table' ≡ seat_table → m'.1 ≡ m.1 → m'.0.lane ≡ m.0.lane → m'.0.writer ≡ None → m'.0.own ≡ m.0.own → CursorOk table seat_table' m' number places passed seen shown closed cut hand
  same_cursor table seat_table seat_table' m m' number places passed seen shown closed cut hand ok same hands lanes alone owns =
      let v : lane_of m'.0 ≡ lane_of m.0 = ap (λ (o : Option (LaneView (BatchView T P) A)). some_or (first_lane 0 0) o) lanes in record {
        same = same ∙ ok.same;
        lane = lanes ∙ (ok.lane ∙ ap (λ (l : LaneView (BatchView T P) A). Some l) (sym v));
        alone = (alone, owns ∙ ok.alone.1);
        here = ap (λ (l : LaneView (BatchView T P) A). l.here) v ∙ ok.here;
        begun = ap (λ (l : LaneView (BatchView T P) A). l.begun) v ∙ ok.begun;
        number_is = ap (λ (l : LaneView (BatchView T P) A). l.number) v ∙ ok.number_is;
        small = ok.small;
        places_is = ap (λ (l : LaneView (BatchView T P) A). l.places) v ∙ ok.places_is;
        some_places = ok.some_places;
        passed_is = ap (λ (l : LaneView (BatchView T P) A). l.passed) v ∙ ok.passed_is;
        low = subst (λ (l : LaneView (BatchView T P) A). l.start ≤ passed) (sym v) ok.low;
        mid = ok.mid;
        seen_is = ap (λ (l : LaneView (BatchView T P) A). length l.front) v ∙ ok.seen_is;
        bound = ok.bound;
        told_is = ap (λ (l : LaneView (BatchView T P) A). l.told) v ∙ ok.told_is;
        cut_is = ap (λ (l : LaneView (BatchView T P) A). l.cut) v ∙ ok.cut_is;
        hand_is = subst (λ (l : LaneView (BatchView T P) A). HasHand m' l shown hand) (sym v) (same_hand m m' (lane_of m.0) shown hand hands ok.hand_is);
        below = λ held. ok.below (sym (ap (λ (l : LaneView (BatchView T P) A). l.held) v) ∙ held);
        uncut = grind arith;
      }

  -- a place in hand has its key there
  pub has_key : (m : SeatState (BatchView T P) (KeyView T) A) (v : LaneView (BatchView T P) A) (shown : ℕ) (hand : Option ℕ) → v.held ≡ true → HasHand m v shown hand → HoldsKey key_of m v
  has_key m v shown (Some count) held has = has.1
  has_key m v shown None held has = absurd (false≢true (sym has.0 ∙ held))

  -- a hand that isn't empty holds a place
  pub holds_if : (m : SeatState (BatchView T P) (KeyView T) A) (v : LaneView (BatchView T P) A) (shown : ℕ) (hand : Option ℕ) → HasHand m v shown hand → HoldsIf key_of v.held m v
  holds_if m v shown (Some count) h = subst (λ (held : Bool). HoldsIf key_of held m v) (sym h.0) h.1
  holds_if m v shown None h = subst (λ (held : Bool). HoldsIf key_of held m v) (sym h.0) h.1

  pub is_held : (m : SeatState (BatchView T P) (KeyView T) A) (v : LaneView (BatchView T P) A) (shown : ℕ) (hand : Option ℕ) → is_some hand ≡ true → HasHand m v shown hand → v.held ≡ true
  is_held m v shown hand there has = grind (arith, false≢true)

  -- the slot in hand is full
  pub full_at : (m : SeatState (BatchView T P) (KeyView T) A) (v : LaneView (BatchView T P) A) (at : ℕ) → HoldsKey key_of m v → at ≡ slot v.places v.number v.passed → (k : KeyView T) × (m.1 ≡ (at, Some k) ∷ rest m.1)
  full_at m v at has is = let k : KeyView T = key_of has.0 v.number in
      (k, has.2 ∙ (λ i. (sym is i, Some k) ∷ rest (sym has.2 i)))

  -- the items that the key in the slot in hand shows
  pub items_held : (m : SeatState (BatchView T P) (KeyView T) A) (v : LaneView (BatchView T P) A) (at : ℕ) (k : KeyView T) → HoldsKey key_of m v → m.1 ≡ (at, Some k) ∷ rest m.1 → items_at v.front v.passed ≡ k.items
  items_held m v at k has there = grind (arith, items_here)

  -- a key came into the hand, and its first item is shown
  pub cursor_took : (table t t' : TableId) (m m' : SeatState (BatchView T P) (KeyView T) A) (number places passed seen shown : ℕ) (closed cut : Bool) (hand : Option ℕ) (count : ℕ)
      → CursorOk table t m number places passed seen shown closed cut hand → t' ≡ t → (lane_of m.0).cut ≡ false → (lane_of m.0).passed < length (lane_of m.0).front
      → Took key_of m (lane_of m.0) m' true → count ≡ length (items_at (lane_of m.0).front (lane_of m.0).passed) → CursorOk table t' m' number places passed seen 1 closed cut (Some count)
  cursor_took table t t' m m' number places passed seen shown closed cut hand count ok same uncut some_more took count_is = let v : LaneView (BatchView T P) A = lane_of m.0 in
      let is : lane_of m'.0 ≡ holding v = ap (λ (w : View (BatchView T P) (KeyView T) A). lane_of w) took.0 in record {
        same = same ∙ ok.same;
        lane = grind arith;
        alone = grind arith;
        here = ap (λ (v : LaneView (BatchView T P) A). v.here) is ∙ ok.here;
        begun = ap (λ (v : LaneView (BatchView T P) A). v.begun) is ∙ ok.begun;
        number_is = ap (λ (v : LaneView (BatchView T P) A). v.number) is ∙ ok.number_is;
        small = ok.small;
        places_is = ap (λ (v : LaneView (BatchView T P) A). v.places) is ∙ ok.places_is;
        some_places = ok.some_places;
        passed_is = ap (λ (v : LaneView (BatchView T P) A). v.passed) is ∙ ok.passed_is;
        low = subst (λ (v : LaneView (BatchView T P) A). v.start ≤ passed) (sym is) ok.low;
        mid = ok.mid;
        seen_is = ap (λ (v : LaneView (BatchView T P) A). length v.front) is ∙ ok.seen_is;
        bound = ok.bound;
        told_is = ap (λ (v : LaneView (BatchView T P) A). v.told) is ∙ ok.told_is;
        cut_is = ap (λ (v : LaneView (BatchView T P) A). v.cut) is ∙ ok.cut_is;
        hand_is = subst (λ (v : LaneView (BatchView T P) A). HasHand m' v 1 (Some count)) (sym is) (refl, took.1, count_is, omega arith, subst (λ (n : ℕ). 1 ≤ n) (sym count_is) (some_there v.front v.passed took.1.0 took.1.1));
        below = λ _. omega arith;
        uncut = λ _. ap (λ (v : LaneView (BatchView T P) A). v.cut) is ∙ uncut;
      }

  -- a hand is the same after a look
  hand_saw : (m m' : SeatState (BatchView T P) (KeyView T) A) (v : LaneView (BatchView T P) A) (front : List (BatchView T P)) (told : Bool) (shown : ℕ) (hand : Option ℕ) → m'.1 ≡ m.1 → IsPrefix v.front front → (v.held ≡ true → v.passed < length v.front) → HasHand m v shown hand → HasHand m' (seeing front told v) shown hand
  hand_saw m m' v front told shown (Some count) e p low has = (
    has.0,
    (has.1.0, prefix_at v.front front v.passed has.1.0 p has.1.1, e ∙ has.1.2),
    has.2 ∙ ap (λ (l : List T). length l) (sym (items_saw v.front front v.passed p (low has.0))),
    has.3,
    has.4,
  )
  hand_saw m m' v front told shown None e p low has = (has.0, e ∙ has.1, has.2)

  -- a cursor's fields after a look
  pub cursor_saw : (table t t' : TableId) (m m' : SeatState (BatchView T P) (KeyView T) A) (number places passed seen shown : ℕ) (closed cut : Bool) (hand : Option ℕ) (front : List (BatchView T P)) (seen' : ℕ) (told : Bool)
      → CursorOk table t m number places passed seen shown closed cut hand → t' ≡ t → m'.1 ≡ m.1 → m'.0 ≡ with_lane (seeing front told (lane_of m.0)) m.0 → IsPrefix (lane_of m.0).front front
      → seen' ≡ length front → seen' ≤ LONGEST_LOG → CursorOk table t' m' number places passed seen' shown told cut hand
  cursor_saw table t t' m m' number places passed seen shown closed cut hand front seen' told ok same hands saw p long few =
      let v : LaneView (BatchView T P) A = lane_of m.0 in
      let is : lane_of m'.0 ≡ seeing front told v = ap (λ (w : View (BatchView T P) (KeyView T) A). lane_of w) saw in
      let grown : length v.front ≤ length front = prefix_length v.front front p in record {
        same = same ∙ ok.same;
        lane = ap (λ (w : View (BatchView T P) (KeyView T) A). w.lane) saw ∙ ap (λ (l : LaneView (BatchView T P) A). Some l) (sym is);
        alone = (ap (λ (w : View (BatchView T P) (KeyView T) A). w.writer) saw ∙ ok.alone.0, ap (λ (w : View (BatchView T P) (KeyView T) A). w.own) saw ∙ ok.alone.1);
        here = ap (λ (v : LaneView (BatchView T P) A). v.here) is ∙ ok.here;
        begun = ap (λ (v : LaneView (BatchView T P) A). v.begun) is ∙ ok.begun;
        number_is = ap (λ (v : LaneView (BatchView T P) A). v.number) is ∙ ok.number_is;
        small = ok.small;
        places_is = ap (λ (v : LaneView (BatchView T P) A). v.places) is ∙ ok.places_is;
        some_places = ok.some_places;
        passed_is = ap (λ (v : LaneView (BatchView T P) A). v.passed) is ∙ ok.passed_is;
        low = subst (λ (v : LaneView (BatchView T P) A). v.start ≤ passed) (sym is) ok.low;
        mid = let mid = ok.mid in let seen_is = ok.seen_is in omega arith;
        seen_is = ap (λ (v : LaneView (BatchView T P) A). length v.front) is ∙ sym long;
        bound = few;
        told_is = ap (λ (v : LaneView (BatchView T P) A). v.told) is;
        cut_is = ap (λ (v : LaneView (BatchView T P) A). v.cut) is ∙ ok.cut_is;
        hand_is = subst (λ (v : LaneView (BatchView T P) A). HasHand m' v shown hand) (sym is) (hand_saw m m' v front told shown hand hands p
            (λ held. let below = ok.below held in let passed_is = ok.passed_is in let seen_is = ok.seen_is in omega arith) ok.hand_is);
        below = λ held. let below = ok.below (sym (ap (λ (v : LaneView (BatchView T P) A). v.held) is) ∙ held) in let seen_is = ok.seen_is in omega arith;
        uncut = λ held. ap (λ (v : LaneView (BatchView T P) A). v.cut) is ∙ ok.uncut (sym (ap (λ (v : LaneView (BatchView T P) A). v.held) is) ∙ held);
      }

  -- without a place in hand nothing of it was shown
  none_shown : (m : SeatState (BatchView T P) (KeyView T) A) (v : LaneView (BatchView T P) A) (shown : ℕ) (hand : Option ℕ) → HasHand m v shown hand → v.held ≡ false → shown ≡ 0
  none_shown m v shown (Some count) has free = absurd (false≢true (sym free ∙ has.0))
  none_shown m v shown None has free = has.2

  -- what was shown, by whether a place is in hand
  shown_saw : (v : LaneView (BatchView T P) A) (shown : ℕ) (front : List (BatchView T P)) (told held : Bool) → IsPrefix v.front front → v.passed ≤ length v.front → (held ≡ true → v.passed < length v.front) → (held ≡ false → shown ≡ 0)
      → take shown (items_at front v.passed) ≡ take shown (items_at v.front v.passed)
  shown_saw v shown front told true p high below none = ap (λ (l : List T). take shown l) (items_saw v.front front v.passed p (below refl))
  shown_saw v shown front told false p high below none = ap (λ (n : ℕ). take n (items_at front v.passed)) (none refl) ∙ sym (ap (λ (n : ℕ). take n (items_at v.front v.passed)) (none refl))

  -- a look shows nothing
  pub taken_saw : (table t : TableId) (m : SeatState (BatchView T P) (KeyView T) A) (number places passed seen shown : ℕ) (closed cut : Bool) (hand : Option ℕ) (front : List (BatchView T P)) (told : Bool)
      → CursorOk table t m number places passed seen shown closed cut hand → IsPrefix (lane_of m.0).front front
      → shown_items (record { lane = seeing front told (lane_of m.0); shown = shown }) ≡ shown_items (record { lane = lane_of m.0; shown = shown })
  taken_saw table t m number places passed seen shown closed cut hand front told ok p =
      let v : LaneView (BatchView T P) A = lane_of m.0 in let mid = ok.mid in let at = ok.passed_is in let seen_is = ok.seen_is in
      let high : v.passed ≤ length v.front = omega arith in
      let below : v.held ≡ true → v.passed < length v.front = λ held. (let low = ok.below held in omega arith) in
      ap (λ (l : List (BatchView T P)). all_items (drop v.start l) ++ take shown (items_at front v.passed)) (take_front v.front front v.passed p high)
      ∙ ap (λ (l : List T). all_items (drop v.start (take v.passed v.front)) ++ l) (shown_saw v shown front told v.held p high below (none_shown m v shown hand ok.hand_is))

module _ {X : Type 0} where
  take_prefix : (xs : List X) (n : ℕ) → IsPrefix (take n xs) xs
  take_prefix xs zero = (xs, refl)
  take_prefix [] (suc n) = ([], refl)
  take_prefix (x ∷ xs) (suc n) = let p = take_prefix xs n in (p.0, ap (λ (l : List X). x ∷ l) p.1)

  drop_parts : (xs : List X) (s i : ℕ) → s ≤ i → i ≤ length xs → drop s xs ≡ drop s (take i xs) ++ drop i xs
  drop_parts xs zero zero h k = refl
  drop_parts [] zero (suc i) h k = refl
  drop_parts (x ∷ xs) zero (suc i) h k = ap (λ (l : List X). x ∷ l) (drop_parts xs zero i (omega arith) (omega arith))
  drop_parts xs (suc s) zero h k = absurd (omega arith)
  drop_parts [] (suc s) (suc i) h k = refl
  drop_parts (x ∷ xs) (suc s) (suc i) h k = drop_parts xs s i (omega arith) (omega arith)

  drop_front : (xs ys : List X) (s : ℕ) → s ≤ length xs → drop s (xs ++ ys) ≡ drop s xs ++ ys
  drop_front xs ys zero h = refl
  drop_front [] ys (suc s) h = absurd (omega arith)
  drop_front (x ∷ xs) ys (suc s) h = drop_front xs ys s (omega arith)

module _ {T P : Type 0} where
  items_append : (xs ys : List (BatchView T P)) → all_items (xs ++ ys) ≡ all_items xs ++ all_items ys
  items_append [] ys = refl
  items_append (x ∷ xs) ys = ap (λ (l : List T). batch_items x ++ l) (items_append xs ys) ∙ sym (append_assoc (batch_items x) (all_items xs) (all_items ys))

  first_place : (xs : List (BatchView T P)) → IsPrefix (all_items (take 1 xs)) (all_items xs)
  first_place [] = ([], refl)
  first_place (x ∷ xs) = (all_items xs, ap (λ (l : List T). l ++ all_items xs) (append_none (batch_items x)))

module _ {T P A : Type 0} where
  -- what was taken begins the log from the start on
  pub taken_front : (log : List (BatchView T P)) (c : CursorView T P A) → IsPrefix c.lane.front log → c.lane.start ≤ c.lane.passed → c.lane.passed ≤ length c.lane.front → IsPrefix (shown_items c) (all_items (drop c.lane.start log))
  taken_front log c p low high = let front : List (BatchView T P) = c.lane.front in let start : ℕ = c.lane.start in let at : ℕ = c.lane.passed in
      let before : List T = all_items (drop start (take at front)) in let here : List T = items_at front at in
      let a = take_prefix here c.shown in let b = first_place (drop at front) in (
        a.0 ++ (b.0 ++ all_items p.0),
        append_assoc before (take c.shown here) (a.0 ++ (b.0 ++ all_items p.0))
            ∙ ap (λ (l : List T). before ++ l) (grind (arith, append_assoc))
            ∙ sym (append_assoc before (all_items (drop at front)) (all_items p.0)) ∙ ap (λ (l : List T). l ++ all_items p.0) (sym (items_append (drop start (take at front)) (drop at front)) ∙ ap (λ (l : List (BatchView T P)). all_items l) (sym (drop_parts front start at low high)))
            ∙ sym (items_append (drop start front) p.0) ∙ ap (λ (l : List (BatchView T P)). all_items l) (sym (drop_front front p.0 start (omega arith)) ∙ ap (λ (l : List (BatchView T P)). drop start l) p.1),
      )

  -- the same, of a cursor whose lane stays
  pub taken_sound : (t : Tail (BatchView T P)) (b : Account (KeyView T) A) (c : CursorView T P A) (l : ℕ) → Sound t b c.lane l → IsPrefix (shown_items c) (all_items (drop c.lane.start t.log))
  taken_sound t b c l sd = grind (arith, taken_front)

  -- the same, of a cursor whose lane has come home
  pub taken_home : (t : Tail (BatchView T P)) (b : Account (KeyView T) A) (c : CursorView T P A) (l : ℕ) → Sound t b (left c.lane) l → IsPrefix (shown_items c) (all_items (drop c.lane.start t.log))
  taken_home t b c l sd = grind (arith, taken_front)

  -- what a cursor has shown that has passed all that it has seen
  pub shown_all : (c : CursorView T P A) → c.lane.passed ≡ length c.lane.front → shown_items c ≡ all_items (drop c.lane.start c.lane.front)
  shown_all c passed = let front : List (BatchView T P) = c.lane.front in let all : List T = all_items (drop c.lane.start front) in
      ap (λ (n : ℕ). all_items (drop c.lane.start (take n front)) ++ take c.shown (items_at front n)) passed
      ∙ ap (λ (l : List (BatchView T P)). all_items (drop c.lane.start l) ++ take c.shown (items_at front (length front))) (take_all front (length front) refl)
      ∙ ap (λ (l : List (BatchView T P)). all ++ take c.shown (all_items (take 1 l))) (drop_all (length front) front (omega arith))
      ∙ ap (λ (l : List T). all ++ l) (none_of c.shown) ∙ append_none all
    where
      none_of : (n : ℕ) → take {A = T} n [] ≡ []
      none_of zero = refl
      none_of (suc n) = refl
