-- The writer makes a place.
use Rattle.std.proofs.Common.{Option, take, ◌≤◌, zero, ◌≡◌, ◌≢◌, ℕ, suc, ◌+◌, ◌<◌, List, [], ◌∷◌, ◌++◌, length, get_or, set, sym, refl, ap, ◌∙◌, subst, ⊎_elim, arith, Some, None, true, false, true≢false, length-set, length-append, get_or-set_other, get_or-set_same}
use mathlib.Core.Logic.{dite}
use mathlib.Core.Option.{none, some}
use mathlib.Core.List.{IsPrefix}
use native.Mathlib.Decide.{ℕ_discrete}
use lib.ListN.{get_elem?, length-map}
use Rattle.atomic_table.specs.Table.{step, keeps, Allows}
use Rattle.atomic_table.proofs.Lists.{at_set, at_map, at_last}
use Rattle.am_cast.specs.declared.limits.TheConstants.{LONGEST_LOG}
use Rattle.am_cast.specs.declared.views.Tail.{Tail}
use Rattle.am_cast.specs.declared.views.Account.{Account}
use Rattle.am_cast.specs.declared.views.WriterView.{WriterView}
use Rattle.am_cast.specs.declared.views.LaneView.{LaneView}
use Rattle.am_cast.specs.declared.views.View.{View}
use Rattle.am_cast.specs.declared.views.Own.{Own}
use Rattle.am_cast.specs.Core.{poster_of}
use Rattle.am_cast.specs.Rule.{live, Homes, lane_word, tail_word, Seen, LaneOk, HasWriter, SeatOk, Ruled}
use Rattle.am_cast.specs.Changes.{grown, longer_tail, longer, own_at}
use Rattle.am_steps.specs.declared.event.Event.TheVariants as does
use Rattle.am_cast.proofs.Events.{publish, AllowsEvent}
use Rattle.am_cast.specs.Steps.{SeatState, Publishes}
use Rattle.am_cast.proofs.Slots.{put, put_here, put_else, at_length, at_end, prefix_more, owns_still, owns_one_more}
use Rattle.am_cast.proofs.Kept.{same_some}
use Rattle.am_cast.proofs.Tails.{any_lane, grown_else, grown_live, others_writer}
use Rattle.am_cast.proofs.WriterSteps.{none_some}

module _ {B : Type 0} where
  -- the posts that were counted stay the first ones
  pub take_still : (n : ℕ) (xs : List (Own B)) (o : Own B) → n ≤ length xs → take n (xs ++ o ∷ []) ≡ take n xs
  take_still zero xs o h = refl
  take_still (suc n) [] o h = absurd (omega arith)
  take_still (suc n) (x ∷ xs) o h = ap (λ (ys : List (Own B)). x ∷ ys) (take_still n xs o (omega arith))

  pub counted_still : (n : ℕ) (xs : List (Own B)) (o : Own B) (known : ℕ) → n ≤ length xs → poster_of known (take n (xs ++ o ∷ [])) ≡ poster_of known (take n xs)
  counted_still n xs o known h = ap (poster_of known) (take_still n xs o h)

module _ {B K A : Type 0} (key : B → ℕ → K) where
  -- one lane, where the log grows
  pub lane_grows : (t : Tail B) (b : Account K A) (v : LaneView B A) (words words' : List ℕ) (homes : Homes K) (l : ℕ) (x : B) → t.closed ≡ false → b.out ≡ 0 → (b.stand ≡ live → b.laid ≡ Some (key x l)) → get_or words' (lane_word l) 0 ≡ get_or words (lane_word l) 0
      → LaneOk key t b v words homes l → LaneOk key (longer_tail x t) (grown b) v words' homes l
  lane_grows t b v words words' homes l x is_open bare laid same ok =
      let sd = ok.sound in let c = sd.counts in let t' : Tail B = longer_tail x t in let n : ℕ = length t.log in let more : length t'.log ≡ n + 1 = length-append t.log (x ∷ []) in
      let not_told : v.told ≡ true → ⊥ = (λ e. true≢false (sym (sd.seen.told e).0 ∙ is_open)) in let stops = c.stops in
      let seen : Seen t' v l = grind (arith, prefix_more) in
      dite (ℕ_discrete b.stand live)
      (λ (alive : b.stand ≡ live).
      let f = c.lives alive in let stop = f.0 in let space = (c.lays (key x l) (laid alive)).1 in let clear = c.clear in
      let not_away : b.away ≡ true → ⊥ = (λ e. let a = (c.aways e).0 in omega arith) in
      let b' : Account K A = record b { stop = suc b.stop; laid = None } in
      subst (λ (b' : Account K A). LaneOk key t' b' v words' homes l) (sym (grown_live b alive)) record {
        sound = grind (arith, none_some);
        word = same ∙ ok.word;
        keys = λ i y a d e g h. ⊎_elim (λ (old : get_elem? t.log i ≡ some y). let inside = at_length t.log i y old in ok.keys i y a (omega arith) old g h)
            (grind arith)
            (at_end t.log x y i e);
        empty = λ i a d e g h. ok.empty i (omega arith) d e g (λ z. absurd (omega arith));
        laid = λ k e. absurd (none_some k e);
        away = λ e. absurd (not_away e);
      })
      (λ (ne : b.stand ≢ live). subst (λ (b' : Account K A). LaneOk key t' b' v words' homes l) (sym (grown_else b ne)) record {
        sound = grind arith;
        word = same ∙ ok.word;
        keys = λ i y a d e g h. ⊎_elim (λ (old : get_elem? t.log i ≡ some y). ok.keys i y a d old g h) (λ (z : (i ≡ n) × (x ≡ y)). let z₀ = z.0 in absurd (omega arith)) (at_end t.log x y i e);
        empty = ok.empty;
        laid = ok.laid;
        away = grind (arith, at_end);
      })

  pub publishes_as : (x : B) (slots id : ℕ) (me : SeatState B K A) (q : WriterView B K A) (new : ℕ) → me.0.writer ≡ Some q → q.tail.closed ≡ false → length q.tail.log < LONGEST_LOG
      → ((l : ℕ) (b : Account K A) → get_elem? q.accounts l ≡ some b → (b.out ≡ 0) × (b.stand ≡ live → b.laid ≡ Some (key x l))) → new ≡ tail_word (length q.tail.log + 1) false
      → AllowsEvent key slots id me 0 (λ _. new) (λ _. does.Publish x ∷ []) (λ _. Publishes (Some x) (step slots 0 new 0 none) me new)
  publishes_as x slots id me q new is is_open₀ few₀ ready new_is₀ s r deep at fits =
      let mine = r.each_seat id me.0 at in let k = subst (HasWriter r.tail r.seat r.account r.lane r.lane_seat id) is mine.writer in let t : Tail B = r.tail in let n : ℕ = length t.log in
      let is_open : t.closed ≡ false = ap (λ (t : Tail B). t.closed) (sym k.0) ∙ is_open₀ in
      let few : n < LONGEST_LOG = subst (λ (t : Tail B). length t.log < LONGEST_LOG) k.0 few₀ in
      let new_is : new ≡ tail_word (n + 1) false = new_is₀ ∙ ap (λ (t : Tail B). tail_word (length t.log + 1) false) k.0 in
      let t' : Tail B = longer_tail x t in let more : length t'.log ≡ n + 1 = length-append t.log (x ∷ []) in let wide = r.wide in
      let words : List ℕ = set s.words 0 new in let account' : ℕ → Account K A = λ m. grown (r.account m) in let owner' : ℕ → ℕ = put r.owner n id in
      let grows : IsPrefix t.log t'.log = (x ∷ [], refl) in
      let same_owner : (p : ℕ) → p < n → owner' p ≡ r.owner p = λ p h. put_else r.owner n id p (λ e. omega arith) in
      let w' : View B K A = record me.0 { writer = Some (longer x q); own = me.0.own ++ own_at n x ∷ [] } in (
        w',
        keeps,
        tt,
        (let kept : Ruled key record { words = words; homes = s.homes; views = set s.views id w' } = record {
          tail = t';
          seat = r.seat;
          account = account';
          lane = r.lane;
          lane_seat = r.lane_seat;
          owner = owner';
          wide = length-set s.words 0 new ∙ r.wide;
          deep = r.deep;
          some_places = r.some_places;
          few = omega arith;
          word = get_or-set_same s.words 0 new 0 (omega arith) ∙ new_is ∙ (λ i. tail_word (sym more i) (sym is_open i));
          each_lane = λ m a. let f = ready m (r.account m) (k.2 m a) in lane_grows t (r.account m) (r.lane m) s.words words s.homes m x is_open f.0 f.1 (get_or-set_other s.words 0 (lane_word m) new 0 (λ e. omega arith)) (r.each_lane m a);
          each_seat = λ j u e. ⊎_elim
              (λ (z : (j ≡ id) × (w' ≡ u)). subst (λ (z : ℕ × View B K A). SeatOk t' r.seat account' r.lane r.lane_seat owner' z.0 z.1) (λ i. (sym z.0 i, z.1 i)) record {
                writer = (ap (longer_tail x) k.0, length-map q.accounts grown ∙ k.1, (λ m a. at_map grown q.accounts m (r.account m) (k.2 m a)), k.3);
                lane_is = any_lane key t t' r.seat r.account account' r.lane r.lane_seat id me.0.lane mine.lane_is;
                noted = prefix_more me.0.noted t.log x mine.noted;
                counts = let h = mine.counts in omega (arith, length-append me.0.own (own_at n x ∷ []));
                counted = grind (arith, at_end);
                heard = prefix_more me.0.heard t.log x mine.heard;
                whole = λ h. absurd (true≢false (sym (mine.whole h).0 ∙ is_open));
                owns = owns_one_more t.log t'.log r.owner owner' id me.0.own (own_at n x) grows same_owner (omega arith) (at_last t.log x n refl) (put_here r.owner n id) mine.owns;
              })
              (λ (z : (j ≢ id) × (get_elem? s.views j ≡ some u)). let o = r.each_seat j u z.1 in record {
                writer = others_writer key t t' r.seat r.account account' r.lane r.lane_seat j (λ h. z.0 (h ∙ sym k.3)) u.writer o.writer;
                lane_is = any_lane key t t' r.seat r.account account' r.lane r.lane_seat j u.lane o.lane_is;
                noted = prefix_more u.noted t.log x o.noted;
                counts = o.counts;
                counted = o.counted;
                heard = prefix_more u.heard t.log x o.heard;
                whole = λ h. absurd (true≢false (sym (o.whole h).0 ∙ is_open));
                owns = owns_still t.log t'.log r.owner owner' j u.own grows same_owner o.owns;
              })
              (at_set s.views id j w' u e);
        } in (kept, grind (arith, publish), counted_still me.0.counted me.0.own (own_at n x) (length me.0.noted) mine.counts)),
        grind (arith, same_some),
      )

  pub publishes : (x : B) (slots id : ℕ) (me : SeatState B K A) (q : WriterView B K A) (new : ℕ) → me.0.writer ≡ Some q → q.tail.closed ≡ false → length q.tail.log < LONGEST_LOG
      → ((l : ℕ) (b : Account K A) → get_elem? q.accounts l ≡ some b → (b.out ≡ 0) × (b.stand ≡ live → b.laid ≡ Some (key x l))) → new ≡ tail_word (length q.tail.log + 1) false
      → Allows (Ruled key) slots id me 0 (λ _. new) (λ _. Publishes (Some x) (step slots 0 new 0 none) me new)
  publishes x slots id me q new is is_open₀ few₀ ready new_is₀ s r deep at fits = let y = publishes_as x slots id me q new is is_open₀ few₀ ready new_is₀ s r deep at fits in (y.0, y.1, y.2, y.3.0, y.4)

  -- the same of a batch that a caller picked
  pub publishes_chosen : (batch : Option B) (x : B) (slots id : ℕ) (me : SeatState B K A) (q : WriterView B K A) (new : ℕ) → batch ≡ Some x → me.0.writer ≡ Some q → q.tail.closed ≡ false → length q.tail.log < LONGEST_LOG
      → ((l : ℕ) (b : Account K A) → get_elem? q.accounts l ≡ some b → (b.out ≡ 0) × (b.stand ≡ live → b.laid ≡ Some (key x l))) → new ≡ tail_word (length q.tail.log + 1) false
      → Allows (Ruled key) slots id me 0 (λ _. new) (λ _. Publishes batch (step slots 0 new 0 none) me new)
  publishes_chosen batch x slots id me q new e is is_open few ready new_is = subst (λ (n : Option B). Allows (Ruled key) slots id me 0 (λ _. new) (λ _. Publishes n (step slots 0 new 0 none) me new)) (sym e) (publishes x slots id me q new is is_open few ready new_is)
