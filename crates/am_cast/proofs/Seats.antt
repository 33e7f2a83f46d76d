-- A seat is cut in two, or takes in another's; and the rule at the start.
use Rattle.std.proofs.Common.{◌≡◌, ◌≢◌, ℕ, zero, suc, ◌*◌, ◌<◌, List, [], ◌∷◌, ◌++◌, replicate, length, get_or, set, sym, refl, ap, ◌∙◌, subst, ⊎_elim, arith, Option, Some, None, true, false, true≢false, length-set, length-append, ◌<◌}
use Rattle.std.specs.Prelude.{⊤}
use mathlib.Core.Option.{some, some-ne-none}
use mathlib.Core.List.{IsPrefix}
use lib.ListN.{get_elem?, length-map}
use Rattle.atomic_table.specs.Table.{Splits, Joins, opening}
use Rattle.atomic_table.proofs.Lists.{at_set, at_map, set_else}
use Rattle.am_cast.specs.declared.limits.TheConstants.{LANES, WORDS}
use Rattle.am_cast.specs.declared.views.Tail.{Tail}
use Rattle.am_cast.specs.declared.views.Account.{Account}
use Rattle.am_cast.specs.declared.views.WriterView.{WriterView}
use Rattle.am_cast.specs.declared.views.LaneView.{LaneView}
use Rattle.am_cast.specs.declared.views.View.{View}
use Rattle.am_cast.specs.Rule.{gone, slot, lane_word, HasWriter, HasLane, SeatOk, Ruled, first_account, first_lane, first_tail, first_view, blank}
use Rattle.am_cast.specs.Changes.{copied, log_of, front_of, closed_of, told_of, without_lane, only_lane, without_own, only_own, either_one, both_of}
use Rattle.am_cast.proofs.Slots.{prefix_back, put, put_here, put_else, becomes, becomes_here, becomes_else, slot_inside, at_end, prefix_nil, owns_nothing, owns_else, owns_there, owns_both}
use Rattle.am_cast.proofs.Kept.{St, lane_ok, lane_here}

abbrev pub none_of : (K : Type 0) → Option K
none_of K = None

module _ {B K A : Type 0} (key : B → ℕ → K) where
  -- a seat is cut in two
  unfoldable pub splits_to : (s : St B K A) (r : Ruled key s) (id : ℕ) (left right : View B K A) (lane_seat' owner' : ℕ → ℕ)
      → SeatOk r.tail r.seat r.account r.lane lane_seat' owner' id left → SeatOk r.tail r.seat r.account r.lane lane_seat' owner' (length s.views) right
      → ((j : ℕ) (u : View B K A) → j ≢ id → get_elem? s.views j ≡ some u → SeatOk r.tail r.seat r.account r.lane lane_seat' owner' j u)
      → Ruled key record { words = s.words; homes = s.homes; views = set s.views id left ++ right ∷ [] }
  splits_to s r id left right lane_seat' owner' first second others = record {
    tail = r.tail;
    seat = r.seat;
    account = r.account;
    lane = r.lane;
    lane_seat = lane_seat';
    owner = owner';
    wide = r.wide;
    deep = r.deep;
    some_places = r.some_places;
    few = r.few;
    word = r.word;
    each_lane = r.each_lane;
    each_seat = λ j u e. let K' : ℕ → View B K A → Type 0 = SeatOk r.tail r.seat r.account r.lane lane_seat' owner' in ⊎_elim
        (λ (old : get_elem? (set s.views id left) j ≡ some u). ⊎_elim
        (λ (z : (j ≡ id) × (left ≡ u)). subst (λ (z : ℕ × View B K A). K' z.0 z.1) (λ i. (sym z.0 i, z.1 i)) first)
        (λ (z : (j ≢ id) × (get_elem? s.views j ≡ some u)). others j u z.0 z.1)
        (at_set s.views id j left u old))
        (grind (arith, length-set))
        (at_end (set s.views id left) right u j e);
  }

  pub log_heard : (s : St B K A) (r : Ruled key s) (id : ℕ) (u : View B K A) → get_elem? s.views id ≡ some u → (dk : Option (WriterView B K A)) (ln : Option (LaneView B A)) → u.writer ≡ dk → u.lane ≡ ln
      → IsPrefix (log_of dk (front_of ln u.noted)) r.tail.log × (closed_of dk (told_of ln false) ≡ true → (r.tail.closed ≡ true) × (log_of dk (front_of ln u.noted) ≡ r.tail.log))
  log_heard s r id u at (Some q) ln e f = let k = subst (HasWriter r.tail r.seat r.account r.lane r.lane_seat id) e (r.each_seat id u at).writer in
      ((let g : IsPrefix r.tail.log r.tail.log = prefix_refl r.tail.log in subst (λ (t : Tail B). IsPrefix t.log r.tail.log) (sym k.0) g), (λ h. (sym (ap (λ (t : Tail B). t.closed) k.0) ∙ h, ap (λ (t : Tail B). t.log) k.0)))
    where
      prefix_refl : (xs : List B) → IsPrefix xs xs
      prefix_refl [] = ([], refl)
      prefix_refl (x ∷ xs) = (let r = prefix_refl xs in r.0, ap (λ ys. x ∷ ys) (prefix_refl xs).1)
  log_heard s r id u at None (Some v) e f = let seen = (lane_ok key s r id u v at f).4.sound.seen in (seen.begins, seen.told)
  log_heard s r id u at None None e f = let k = r.each_seat id u at in (k.noted, (λ h. absurd (true≢false (sym h))))

  -- a copy of what a seat has seen of the log
  unfoldable pub tells : (id : ℕ) (v : View B K A) → Splits (Ruled key) id v v (copied v)
  tells id v s r at = let h = log_heard s r id v at v.writer v.lane refl refl in
      splits_to s r id v (copied v) r.lane_seat r.owner (r.each_seat id v at) record { writer = tt; lane_is = tt; noted = prefix_nil r.tail.log; counts = omega arith; counted = λ k o _ a. absurd (omega arith); heard = h.0; whole = h.1; owns = owns_nothing r.tail.log r.owner (length s.views) } (λ j u ne e. r.each_seat j u e)

  pub dealt_else : (t : Tail B) (seat : ℕ) (account : ℕ → Account K A) (lane : ℕ → LaneView B A) (lane_seat : ℕ → ℕ) (l new id j : ℕ) → lane_seat l ≡ id → j ≢ id → (ln : Option (LaneView B A)) → HasLane t seat account lane lane_seat j ln → HasLane t seat account lane (put lane_seat l new) j ln
  dealt_else t seat account lane lane_seat l new id j mine ne ln k = grind (arith, put_else)

  pub any_writer : (t : Tail B) (seat : ℕ) (account : ℕ → Account K A) (lane : ℕ → LaneView B A) (lane_seat lane_seat' : ℕ → ℕ) (j : ℕ) (dk : Option (WriterView B K A)) → HasWriter t seat account lane lane_seat j dk → HasWriter t seat account lane lane_seat' j dk
  any_writer t seat account lane lane_seat lane_seat' j dk k = grind arith

  -- the lane gets a seat of its own
  unfoldable pub deals : (id : ℕ) (w : View B K A) (v : LaneView B A) → w.lane ≡ Some v → Splits (Ruled key) id w (without_lane w) (only_lane w)
  deals id w v is s r at =
      let mine = r.each_seat id w at in let k = lane_ok key s r id w v at is in let new : ℕ = length s.views in let lane_seat' = put r.lane_seat v.number new in
      splits_to s r id (without_lane w) (only_lane w) lane_seat' r.owner
      record { writer = any_writer r.tail r.seat r.account r.lane r.lane_seat lane_seat' id w.writer mine.writer; lane_is = tt; noted = mine.noted; counts = mine.counts; counted = mine.counted; heard = mine.heard; whole = mine.whole; owns = mine.owns }
      record {
        writer = tt;
        lane_is = subst (HasLane r.tail r.seat r.account r.lane lane_seat' new) (sym is) (k.0, sym k.3, put_here r.lane_seat v.number new, lane_here key s r id w v at is);
        noted = prefix_nil r.tail.log;
        counts = omega arith;
        counted = λ k o _ a. absurd (omega arith);
        heard = prefix_nil r.tail.log;
        whole = λ e. absurd (true≢false (sym e));
        owns = owns_nothing r.tail.log r.owner new;
      }
      (λ j u ne e. let o = r.each_seat j u e in record {
        writer = any_writer r.tail r.seat r.account r.lane r.lane_seat lane_seat' j u.writer o.writer;
        lane_is = dealt_else r.tail r.seat r.account r.lane r.lane_seat v.number new id j k.1 ne u.lane o.lane_is;
        noted = o.noted;
        counts = o.counts;
        counted = o.counted;
        heard = o.heard;
        whole = o.whole;
        owns = o.owns;
      })

  -- the own places get a seat of their own
  unfoldable pub hands : (id : ℕ) (w : View B K A) → Splits (Ruled key) id w (without_own w) (only_own w)
  hands id w s r at =
      let mine = r.each_seat id w at in let new : ℕ = length s.views in let owner' : ℕ → ℕ = λ p. becomes new id (r.owner p) in
      splits_to s r id (without_own w) (only_own w) r.lane_seat owner'
      record { writer = mine.writer; lane_is = mine.lane_is; noted = mine.noted; counts = omega arith; counted = λ k o _ a. absurd (omega arith); heard = mine.heard; whole = mine.whole; owns = owns_nothing r.tail.log owner' id }
      record { writer = tt; lane_is = tt; noted = prefix_nil r.tail.log; counts = omega arith; counted = λ k o _ a. absurd (omega arith); heard = prefix_nil r.tail.log; whole = λ e. absurd (true≢false (sym e)); owns = owns_there r.tail.log r.owner new id w.own mine.owns }
      (λ j u ne e. let o = r.each_seat j u e in record { writer = o.writer; lane_is = o.lane_is; noted = o.noted; counts = o.counts; counted = o.counted; heard = o.heard; whole = o.whole; owns = owns_else r.tail.log r.owner new id j u.own ne o.owns })

  module _ (t : Tail B) (seat : ℕ) (account : ℕ → Account K A) (lane : ℕ → LaneView B A) (lane_seat : ℕ → ℕ) (to from : ℕ) where
    pub writer_else : (j : ℕ) → j ≢ from → (dk : Option (WriterView B K A)) → HasWriter t seat account lane lane_seat j dk → HasWriter t (becomes to from seat) account lane (λ l. becomes to from (lane_seat l)) j dk
    writer_else j ne dk k = grind (arith, becomes_else)

    pub writer_came : (dk : Option (WriterView B K A)) → HasWriter t seat account lane lane_seat from dk → HasWriter t (becomes to from seat) account lane (λ l. becomes to from (lane_seat l)) to dk
    writer_came dk k = grind (arith, becomes_here)

    pub lane_else : (j : ℕ) → j ≢ from → (ln : Option (LaneView B A)) → HasLane t seat account lane lane_seat j ln → HasLane t (becomes to from seat) account lane (λ l. becomes to from (lane_seat l)) j ln
    lane_else j ne ln k = grind (arith, becomes_else)

    pub lane_came : (ln : Option (LaneView B A)) → HasLane t seat account lane lane_seat from ln → HasLane t (becomes to from seat) account lane (λ l. becomes to from (lane_seat l)) to ln
    lane_came ln k = grind (arith, becomes_here)

    pub writer_both : to ≢ from → (a b : Option (WriterView B K A)) → HasWriter t seat account lane lane_seat to a → HasWriter t seat account lane lane_seat from b → HasWriter t (becomes to from seat) account lane (λ l. becomes to from (lane_seat l)) to (either_one a b)
    writer_both ne a b j k = grind (arith, writer_else, writer_came)

    pub lane_both : to ≢ from → (a b : Option (LaneView B A)) → HasLane t seat account lane lane_seat to a → HasLane t seat account lane lane_seat from b → HasLane t (becomes to from seat) account lane (λ l. becomes to from (lane_seat l)) to (either_one a b)
    lane_both ne a b j k = grind (arith, lane_else, lane_came)

  -- a seat takes in all of another's
  unfoldable pub hears : (id other : ℕ) (v w : View B K A) → Joins (Ruled key) id v other w (both_of v w) blank
  hears id other v w s r at apart₀ there₀ =
      let ne : id ≢ other = λ e. apart₀ (sym e) in
      let there : get_elem? s.views other ≡ some w = sym (set_else s.views id other (both_of v w) apart₀) ∙ there₀ in
      let mine = r.each_seat id v at in let theirs = r.each_seat other w there in
      let seat' : ℕ = becomes id other r.seat in let lane_seat' : ℕ → ℕ = λ l. becomes id other (r.lane_seat l) in let owner' : ℕ → ℕ = λ p. becomes id other (r.owner p) in
      let K' : ℕ → View B K A → Type 0 = SeatOk r.tail seat' r.account r.lane lane_seat' owner' in record {
        tail = r.tail;
        seat = seat';
        account = r.account;
        lane = r.lane;
        lane_seat = lane_seat';
        owner = owner';
        wide = r.wide;
        deep = r.deep;
        some_places = r.some_places;
        few = r.few;
        word = r.word;
        each_lane = r.each_lane;
        each_seat = λ j u e. ⊎_elim
            (λ (z : (j ≡ other) × (blank ≡ u)). subst (λ (z : ℕ × View B K A). K' z.0 z.1) (λ i. (sym z.0 i, z.1 i)) record { writer = tt; lane_is = tt; noted = prefix_nil r.tail.log; counts = omega arith; counted = λ k o _ a. absurd (omega arith); heard = prefix_nil r.tail.log; whole = λ h. absurd (true≢false (sym h)); owns = owns_nothing r.tail.log owner' other })
            (λ (z : (j ≢ other) × (get_elem? (set s.views id (both_of v w)) j ≡ some u)). ⊎_elim
            (λ (y : (j ≡ id) × (both_of v w ≡ u)). subst (λ (z : ℕ × View B K A). K' z.0 z.1) (λ i. (sym y.0 i, y.1 i)) record {
              writer = writer_both r.tail r.seat r.account r.lane r.lane_seat id other ne v.writer w.writer mine.writer theirs.writer;
              lane_is = lane_both r.tail r.seat r.account r.lane r.lane_seat id other ne v.lane w.lane mine.lane_is theirs.lane_is;
              noted = mine.noted;
              counts = let h = mine.counts in omega (arith, length-append v.own w.own);
              counted = λ k o e a. mine.counted k o (prefix_back v.own (v.own ++ w.own) k o (w.own, refl) (omega arith) e) a;
              heard = theirs.heard;
              whole = theirs.whole;
              owns = owns_both r.tail.log r.owner id other v.own w.own ne mine.owns theirs.owns;
            })
            (λ (y : (j ≢ id) × (get_elem? s.views j ≡ some u)). let o = r.each_seat j u y.1 in record {
              writer = writer_else r.tail r.seat r.account r.lane r.lane_seat id other j z.0 u.writer o.writer;
              lane_is = lane_else r.tail r.seat r.account r.lane r.lane_seat id other j z.0 u.lane o.lane_is;
              noted = o.noted;
              counts = o.counts;
              counted = o.counted;
              heard = o.heard;
              whole = o.whole;
              owns = owns_else r.tail.log r.owner id other j u.own z.0 o.owns;
            })
            (at_set s.views id j (both_of v w) u z.1))
            (at_set (set s.views id (both_of v w)) other j blank u e);
      }

  unfoldable pub begins : (words : List ℕ) (slots : List (Option K)) (places : ℕ) → length words ≡ WORDS → get_or words 0 0 ≡ 0 → ((l : ℕ) → l < LANES → get_or words (lane_word l) 0 ≡ gone) → length slots ≡ LANES * places → ((i : ℕ) → i < length slots → get_elem? slots i ≡ some None) → 0 < places
      → Ruled key (opening words slots (first_view {A = A} places))
  begins words slots places wide zero_first all_gone deep vacant pos = record {
    tail = first_tail places;
    seat = 0;
    account = λ _. first_account;
    lane = first_lane places;
    lane_seat = λ _. 0;
    owner = λ _. 0;
    wide = wide;
    deep = length-map slots (λ (x : Option K). some x) ∙ deep;
    some_places = pos;
    few = omega arith;
    word = zero_first;
    each_lane = λ l small. record {
      sound = record {
        seen = record { number = refl; places = refl; begins = prefix_nil []; begun = λ e. absurd (true≢false (sym e)); unbegun = λ e _. absurd (true≢false (sym e)); high = omega arith; holds = λ e. absurd (true≢false (sym e)); told = λ e. absurd (true≢false (sym e)) };
        counts = record { stands = omega arith; low = omega arith; clear = omega arith; room = omega arith; stops = omega arith; lives = λ e. absurd (omega arith); lays = λ k e. absurd (no_key k e); aways = λ e. absurd (true≢false (sym e)) };
        turn = refl;
        note = refl;
        start = refl;
        idles = λ _. refl;
        vacates = λ _. refl;
        mid = omega arith;
        halves = λ _. omega arith;
        cuts = λ e. absurd (true≢false (sym e));
        keeps = λ e. absurd (omega arith);
        lags = λ e. absurd (omega arith);
      };
      word = all_gone l small;
      keys = λ i x a b _ _ _. absurd (omega arith);
      empty = λ i _ _ _ _ _. at_map some slots (slot places l i) None (vacant (slot places l i) (slot_inside places l i (length slots) small pos deep));
      laid = λ k e. absurd (no_key k e);
      away = λ e. absurd (true≢false (sym e));
    };
    each_seat = λ j u e. ⊎_elim
        (λ (t : (j ≡ 0) × (first_view places ≡ u)). subst (λ (z : View B K A). SeatOk (first_tail places) 0 (λ _. first_account) (first_lane places) (λ _. 0) (λ _. 0) j z) t.1
        record { writer = (refl, refl, each_first, t.0); lane_is = tt; noted = prefix_nil []; counts = omega arith; counted = λ k o _ a. absurd (omega arith); heard = prefix_nil []; whole = λ h. absurd (true≢false (sym h)); owns = owns_nothing [] (λ _. 0) j })
        (λ (t : (j ≢ 0) × (get_elem? (first_view places ∷ []) j ≡ some u)). absurd (beyond j u t.0 t.1)) (at_set (first_view places ∷ []) 0 j (first_view places) u e);
  }
    where
      no_key : (k : K) → None ≡ Some k → ⊥
      no_key k e = subst is_none e tt
        where
          is_none : Option K → Type 0
          is_none None = ⊤
          is_none (Some y) = ⊥

      beyond : (j : ℕ) (u : View B K A) → j ≢ 0 → get_elem? (first_view places ∷ []) j ≡ some u → ⊥
      beyond zero u other e = other refl
      beyond (suc j) u other e = some-ne-none u (sym e)

      at_replicate : (n l : ℕ) (b : Account K A) → l < n → get_elem? (replicate n b) l ≡ some b
      at_replicate zero l b h = absurd (omega arith)
      at_replicate (suc n) zero b h = refl
      at_replicate (suc n) (suc l) b h = at_replicate n l b (omega arith)

      one_account : Account K A
      one_account = first_account

      each_first : (l : ℕ) → l < LANES → get_elem? (replicate LANES one_account) l ≡ some one_account
      each_first l h = at_replicate LANES l one_account h

pub length_none : (K : Type 0) (n : ℕ) → length (replicate n (none_of K)) ≡ n
length_none K zero = refl
length_none K (suc n) = ap suc (length_none K n)

pub all_none : (K : Type 0) (n i : ℕ) → i < length (replicate n (none_of K)) → get_elem? (replicate n (none_of K)) i ≡ some (none_of K)
all_none K zero i h = absurd (omega arith)
all_none K (suc n) zero h = refl
all_none K (suc n) (suc i) h = all_none K n i (omega arith)
