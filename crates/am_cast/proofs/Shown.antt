-- What the rule says of the core's state behind a table: it is sound, and the writer knows which places are freed.
use Rattle.std.proofs.Common.{◌≡◌, ◌≢◌, ℕ, zero, suc, ◌-◌, ◌<◌, ◌≤◌, inl, inr, List, [], ◌∷◌, length, map, take, drop, sym, refl, ap, ◌∙◌, subst, arith, Some, true, false, true≢false, slice_get, ◌==◌}
use Rattle.std.specs.List.{All}
use Rattle.std.proofs.lemmas.Bool.{eq-eqb, ne_eqb, le-ltb, cases_lt}
use Rattle.std.proofs.lemmas.Option.{none-some}
use mathlib.Core.Logic.{dite}
use mathlib.Core.Option as maybe
use mathlib.Core.Option.{some}
use native.Mathlib.Decide.{ℕ_discrete}
use lib.ListN.{get_elem?}
use Rattle.am_steps.specs.declared.lane_record.LaneRecord.{LaneRecord}
use Rattle.am_steps.specs.States.{record_of}
use Rattle.am_steps.specs.Soundness.{IsLaneSound, IsPosterSound, IsSound}
use Rattle.am_steps.specs.Needed.{KeepsKey, IsFreed}
use Rattle.am_cast.specs.declared.limits.TheConstants.{LANES}
use Rattle.am_cast.specs.declared.views.Tail.{Tail}
use Rattle.am_cast.specs.declared.views.Account.{Account}
use Rattle.am_cast.specs.declared.views.LaneView.{LaneView}
use Rattle.am_cast.specs.declared.views.Own.{Own}
use Rattle.am_cast.specs.declared.views.WriterView.{WriterView}
use Rattle.am_cast.specs.declared.views.View.{View}
use Rattle.am_cast.specs.Rule.{idle, live, cut, vacated, Sound, HasWriter, Ruled}
use Rattle.am_cast.specs.Core.{record_behind, lane_behind, post_of, poster_behind, view_or_blank, state_of}
use Rattle.am_cast.specs.Freed.{record_kept, IsOut, IsGathered, IsFreedFor}
use Rattle.am_cast.specs.Seats.{account_of}
use Rattle.am_cast.proofs.Kept.{St, same_some}
use Rattle.am_cast.proofs.Slots.{at_length, prefix_length}
use Rattle.am_cast.proofs.Ties.{IsUsed, used_by, by_bool, cut_flag, open_is, admitted_is, left_is, used_record, standing_record, first_of, inside, get_at}
use Rattle.am_cast.proofs.Accounts.{is_account_of}

module _ {B K A : Type 0} where
  lane_sound : (t : Tail B) (b : Account K A) (v : LaneView B A) (l : ℕ) → Sound t b v l → IsLaneSound t.log t.closed (lane_behind b v)
  lane_sound t b v l sd = dite (ℕ_discrete b.stand idle)
      (grind arith)
      (λ (used₀ : b.stand ≢ idle). dite (ℕ_discrete b.stand vacated)
      (grind arith)
      (λ (used₁ : b.stand ≢ vacated).
      let used = used_by b.stand sd.counts.stands used₀ used₁ in
      let long = prefix_length v.front t.log sd.seen.begins in let low = sd.counts.low in let mid = sd.mid in let high = sd.seen.high in let start = sd.start in
      by_bool v.here
      (λ (here : v.here ≡ true). by_bool v.begun
      (λ (begun : v.begun ≡ true). subst (IsLaneSound t.log t.closed) (sym (open_is b v used here begun)) record {
        got = (λ i. drop (start i) (sym (first_of v.front t.log v.passed sd.seen.begins high) i));
        start = low;
        known = mid;
        passed = high;
        seen = long;
        held = λ h. (sd.seen.holds h).1;
        told = λ h. let e = sd.seen.told h in (e.0, ap (λ (xs : List B). length xs) e.1);
        told_cut = λ h. let dead = (sd.cuts h).0 in eq-eqb b.stand cut (cut_by b.stand used dead);
        in_hand = grind arith;
      })
      (grind (arith, admitted_is)))
      (λ (gone_from : v.here ≡ false). subst (IsLaneSound t.log t.closed) (sym (left_is b v used gone_from)) (low, omega arith))))
    where
      cut_by : (n : ℕ) → IsUsed n → n ≢ live → n ≡ cut
      cut_by n (inl e) ne = absurd (ne e)
      cut_by n (inr e) ne = e

      cut_from : (n : ℕ) → IsUsed n → (n == cut) ≡ true → n ≡ cut
      cut_from n (inl e) c = absurd (true≢false (sym c ∙ ne_eqb n cut (λ z. omega arith)))
      cut_from n (inr e) c = e

  -- which lanes have a record, and which
  record_tells : (b : Account K A) (v : LaneView B A) (m : LaneRecord) → record_of (lane_behind b v) ≡ Some m → IsUsed b.stand × (record_behind b ≡ m)
  record_tells b v m e = grind (arith, standing_record, same_some, used_record)

  behind_at_most : (t : Tail B) (b : Account K A) (v : LaneView B A) (l : ℕ) (m : LaneRecord) → Sound t b v l → record_of (lane_behind b v) ≡ Some m → m.cut ≡ false → length t.log - m.known ≤ t.places
  behind_at_most t b v l m sd e uncut = grind (arith, record_tells, true≢false, cut_flag)

module _ {B : Type 0} where
  -- own posts by their places
  posts_sound : (log : List B) (known : ℕ) (own : List (Own B)) → ((k : ℕ) (o : Own B) → get_elem? own k ≡ some o → (get_elem? log o.place ≡ some o.batch) × (o.place < known))
      → All (λ (post : ℕ × B). (slice_get log post.0 ≡ Some post.1) × (post.0 < known)) (map post_of own)
  posts_sound log known [] h k d small = absurd (omega arith)
  posts_sound log known (o ∷ os) h zero d small = let e = h zero o refl in (get_at log o.place o.batch e.0, e.1)
  posts_sound log known (o ∷ os) h (suc k) d small = posts_sound log known os (λ j p e. h (suc j) p e) k d (omega arith)

  taken_at : (own : List (Own B)) (n k : ℕ) (o : Own B) → get_elem? (take n own) k ≡ some o → (get_elem? own k ≡ some o) × (k < n)
  taken_at own zero k o e = absurd (let h = at_length {A = Own B} [] k o e in omega arith)
  taken_at [] (suc n) k o e = absurd (let h = at_length {A = Own B} [] k o e in omega arith)
  taken_at (x ∷ xs) (suc n) zero o e = (e, omega arith)
  taken_at (x ∷ xs) (suc n) (suc k) o e = let t = taken_at xs n k o e in (t.0, omega arith)

module _ {B K A : Type 0} (key : B → ℕ → K) where
  poster_sound : (s : St B K A) (r : Ruled key s) (j : ℕ) (o : maybe.Option (View B K A)) → get_elem? s.views j ≡ o → IsPosterSound r.tail.log (poster_behind (view_or_blank o))
  poster_sound s r j maybe.none e = grind (arith, posts_sound, at_length)
  poster_sound s r j (some w) e = let ok = r.each_seat j w e in record {
    places_known = prefix_length w.noted r.tail.log ok.noted;
    own = posts_sound r.tail.log (length w.noted) (take w.counted w.own) (λ k o f. let t = taken_at w.own w.counted k o f in ((ok.owns.each k o t.0).0, ok.counted k o t.0 t.1));
  }

  -- what a table shows is a sound state of the core
  pub is_sound : (s : St B K A) (r : Ruled key s) (posters : ℕ) (seat_of : ℕ → ℕ) → IsSound (state_of posters seat_of r)
  is_sound s r posters seat_of = grind (arith, cases_lt, inside, lane_sound, le-ltb, behind_at_most, none-some, poster_sound)

module _ {K A : Type 0} where
  kept_is : (b : Account K A) → IsUsed b.stand → record_kept b ≡ Some (record_behind b)
  kept_is b y = grind arith

  kept_tells : (b : Account K A) (m : LaneRecord) → record_kept b ≡ Some m → IsUsed b.stand × (record_behind b ≡ m)
  kept_tells b m e = grind (arith, none-some, same_some)

  -- where a key is out, the core's writer keeps it
  pub out_is_kept : (b : Account K A) (i : ℕ) → IsGathered b → IsOut b i → (m : LaneRecord) × (record_kept b ≡ Some m) × KeepsKey m i
  out_is_kept b i g (inl t) = dite (ℕ_discrete b.stand live)
      (λ (e : b.stand ≡ live). let at = g.live_is e in let t₀ = t.0 in (record_behind b, kept_is b (inl e), grind (arith, ne_eqb)))
      (λ ne. absurd (omega arith))
  out_is_kept b i g (inr t) = let e = g.away_is t.0 in (record_behind b, kept_is b (inr e), grind arith)

  -- and a key that it keeps is out
  pub kept_is_out : (b : Account K A) (i : ℕ) (m : LaneRecord) → IsGathered b → (b.stand ≡ live → i < b.stop) → record_kept b ≡ Some m → KeepsKey m i → IsOut b i
  kept_is_out b i m g inside e keeps = grind (arith, kept_tells, ne_eqb, inside, cut_flag)

module _ {B K A : Type 0} where
  record_of_behind : (b : Account K A) (v : LaneView B A) → record_of (lane_behind b v) ≡ record_kept b
  record_of_behind b v = grind (arith, used_record)

module _ {B K A : Type 0} (key : B → ℕ → K) where
  account_is : (s : St B K A) (r : Ruled key s) (id : ℕ) (u : View B K A) (q : WriterView B K A) → get_elem? s.views id ≡ some u → u.writer ≡ Some q → (q.tail ≡ r.tail) × ((l : ℕ) → l < LANES → account_of q l ≡ r.account l)
  account_is s r id u q at is = let k = subst (HasWriter r.tail r.seat r.account r.lane r.lane_seat id) is (r.each_seat id u at).writer in
      (k.0, λ l small. sym (is_account_of q l (r.account l) (k.2 l small)))

  -- the writer knows which places are freed
  pub freed_for : (s : St B K A) (r : Ruled key s) (id : ℕ) (u : View B K A) (q : WriterView B K A) (posters : ℕ) (seat_of : ℕ → ℕ) (i : ℕ) → get_elem? s.views id ≡ some u → u.writer ≡ Some q
      → (IsFreed (state_of posters seat_of r) i → IsFreedFor q i) × (IsFreedFor q i → IsFreed (state_of posters seat_of r) i)
  freed_for s r id u q posters seat_of i at is =
      let k = account_is s r id u q at is in let record_at : (l : ℕ) → l < LANES → record_of ((state_of posters seat_of r).lane l) ≡ record_kept (account_of q l) = grind (arith, inside, record_of_behind) in grind (arith, cases_lt, none-some, le-ltb)

  -- of a freed place no key is out, and where none is out the place is freed
  pub freed_is_home : (q : WriterView B K A) (i l : ℕ) → l < LANES → IsGathered (account_of q l) → IsFreedFor q i → IsOut (account_of q l) i → ⊥
  freed_is_home q i l small g f out = let k = out_is_kept (account_of q l) i g out in f.1 l k.0 small k.1 k.2

  pub home_is_freed : (q : WriterView B K A) (i : ℕ) → i < length q.tail.log → ((l : ℕ) → l < LANES → IsGathered (account_of q l) × ((account_of q l).stand ≡ live → (account_of q l).stop ≡ length q.tail.log) × (IsOut (account_of q l) i → ⊥)) → IsFreedFor q i
  home_is_freed q i inside all = grind (arith, inside, kept_is_out)
