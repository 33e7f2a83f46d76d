-- Each step keeps a state sound.
use Rattle.std.proofs.Common.{◌≡◌, ℕ, ◌+◌, ◌-◌, ◌<◌, ◌≤◌, inl, inr, Bool, true, false, cond, ◌||◌, List, [], ◌∷◌, ◌++◌, length, take, drop, slice_get, Option, Some, None, MatchOption, refl, sym, ap, ◌∙◌, subst, arith, length-append}
use Rattle.std.specs.Prelude.{⊤}
use Rattle.std.proofs.lemmas.Bool.{false≢true, or_cases, cases_eq}
use Rattle.std.proofs.lemmas.List.{take-append-le, drop-append-le, length-take}
use Rattle.std.proofs.lemmas.List.Elements.{All-weaker, All-push}
use Rattle.std.proofs.lemmas.Option.{slice_get_within, none-some, same_Some}
use Rattle.am_steps.specs.declared.lane_record.LaneRecord.{LaneRecord}
use Rattle.am_steps.specs.declared.cursor.Cursor.{Cursor}
use Rattle.am_steps.specs.declared.lane.Lane.{Lane}
use Rattle.am_steps.specs.declared.lane.Lane.TheVariants.{Idle, Admitted, Open, Left}
use Rattle.am_steps.specs.declared.poster.Poster.{Poster}
use Rattle.am_steps.specs.declared.event.Event as event
use Rattle.am_steps.specs.States.{Core, LaneWord, record_of, with_record, word_of, first_state}
use Rattle.am_steps.specs.Steps.{OnlyLane, OnlyLog, OnlyPoster, MayOwn, with_own, Step, publish, close, harvest, admit, opens, look, take as takes, pass, cut, leave, retire, note}
use Rattle.am_steps.specs.Soundness.{IsCursorSound, IsLaneSound, IsPosterSound, IsSound}
use Rattle.am_steps.proofs.Common.{of_some, take_more_at, slice_get_append, drop_take_same}

module _ {X : Type 0} where
  -- a lane is within so many places of the log's end, unless it was cut
  abbrev Within : ℕ → ℕ → Lane X → Type 0
  Within length places v = MatchOption (record_of v) ⊤ (λ m. m.cut ≡ false → length - m.known ≤ places)

  pub turned : (c d : Core X) (l : ℕ) (v : Lane X) → OnlyLane c l v d → IsSound c → IsLaneSound c.log c.closed v → Within (length c.log) c.places v → IsSound d
  turned c d l v t s good near =
      let same = t.same in
      let onto : (k : ℕ) → IsLaneSound c.log c.closed (d.lane k) = λ k. elim (cases_eq k l) [
        | inl e ↦ subst (λ i. IsLaneSound c.log c.closed (d.lane i)) (sym e) (subst (IsLaneSound c.log c.closed) (sym t.here) good)
        | inr ne ↦ subst (IsLaneSound c.log c.closed) (sym (t.other k ne)) (s.lane k)
      ] in
      let bound : (k : ℕ) (m : LaneRecord) → record_of (d.lane k) ≡ Some m → m.cut ≡ false → length c.log - m.known ≤ c.places = λ k m. elim (cases_eq k l) [
        | inl e ↦ (λ is. of_some (record_of v) (λ n. n.cut ≡ false → length c.log - n.known ≤ c.places) near m (ap record_of (sym t.here) ∙ ap (λ i. record_of (d.lane i)) (sym e) ∙ is))
        | inr ne ↦ (λ is. s.behind k m (ap record_of (sym (t.other k ne)) ∙ is))
      ] in
      record {
        lane = λ k. subst (λ (p : List X × Bool). IsLaneSound p.0 p.1 (d.lane k)) (λ i. (sym same.log i, sym same.closed i)) (onto k);
        behind = λ k m is uncut. subst (λ (p : List X × ℕ). length p.0 - m.known ≤ p.1) (λ i. (sym same.log i, sym same.places i)) (bound k m is uncut);
        poster = λ p. subst (λ (q : List X × Poster X). IsPosterSound q.0 q.1) (λ i. (sym same.log i, sym (t.poster p) i)) (s.poster p);
      }

  -- a lane stays sound as the log grows
  longer : (log : List X) (x : X) (v : Lane X) → IsLaneSound log false v → IsLaneSound (log ++ x ∷ []) false v
  longer log x Idle s = tt
  longer log x (Admitted m) s = let more = length-append log (x ∷ []) in (s.0, omega (arith, s.1))
  longer log x (Open m r) s = let more = length-append log (x ∷ []) in let low = s.passed in let high = s.seen in record {
    got = s.got ∙ ap (drop m.start) (sym (take-append-le r.passed log (x ∷ []) (omega arith)));
    start = s.start;
    known = s.known;
    passed = s.passed;
    seen = omega arith;
    held = s.held;
    told = λ e. absurd (false≢true (s.told e).0);
    told_cut = s.told_cut;
    in_hand = s.in_hand;
  }
  longer log x (Left m) s = let more = length-append log (x ∷ []) in (s.0, omega (arith, s.1))

  closes : (log : List X) (v : Lane X) → IsLaneSound log false v → IsLaneSound log true v
  closes log Idle s = tt
  closes log (Admitted m) s = s
  closes log (Open m r) s = record {
    got = s.got;
    start = s.start;
    known = s.known;
    passed = s.passed;
    seen = s.seen;
    held = s.held;
    told = λ e. absurd (false≢true (s.told e).0);
    told_cut = s.told_cut;
    in_hand = s.in_hand;
  }
  closes log (Left m) s = s

  informed : (log : List X) (x : X) (v : Poster X) → IsPosterSound log v → IsPosterSound (log ++ x ∷ []) v
  informed log x v s = let more = length-append log (x ∷ []) in let low = s.places_known in record {
    places_known = omega arith;
    own = All-weaker (λ post. (slice_get log post.0 ≡ Some post.1) × (post.0 < v.places_known)) (λ post. (slice_get (log ++ x ∷ []) post.0 ≡ Some post.1) × (post.0 < v.places_known))
        (λ post h. (slice_get_append log (x ∷ []) post.0 post.1 h.0, h.1)) v.own s.own;
  }

  pub grown : (c d : Core X) (names : List X) (ended : Bool) → OnlyLog c names ended d → ((l : ℕ) → IsLaneSound names ended (c.lane l))
      → ((l : ℕ) (m : LaneRecord) → record_of (c.lane l) ≡ Some m → m.cut ≡ false → length names - m.known ≤ c.places) → ((p : ℕ) → IsPosterSound names (c.poster p)) → IsSound d
  grown c d names ended g lanes near posters = record {
    lane = λ l. subst (λ (p : List X × Bool × Lane X). IsLaneSound p.0 p.1 p.2) (λ i. (sym g.log i, sym g.closed i, sym (g.lane l) i)) (lanes l);
    behind = λ l m is uncut. subst (λ (p : List X × ℕ). length p.0 - m.known ≤ p.1) (λ i. (sym g.log i, sym g.places i)) (near l m (ap record_of (sym (g.lane l)) ∙ is) uncut);
    poster = λ p. subst (λ (q : List X × Poster X). IsPosterSound q.0 q.1) (λ i. (sym g.log i, sym (g.poster p) i)) (posters p);
  }

  harvested : (log : List X) (closed : Bool) (places : ℕ) (v : Lane X) (m : LaneRecord) (w : LaneWord) → record_of v ≡ Some m → word_of v ≡ Some w → IsLaneSound log closed v
      → (m.cut ≡ false → length log - m.known ≤ places)
      → IsLaneSound log closed (with_record (record m { known = w.passed; key_out = w.held }) v) × Within (length log) places (with_record (record m { known = w.passed; key_out = w.held }) v)
  harvested log closed places Idle m w e f s near = absurd (none-some m e)
  harvested log closed places (Admitted n) m w e f s near = let is = same_Some n m e in let at = same_Some (record { passed = n.start; held = false }) w f in
      let known = ap (λ k. k.known) is in let start = ap (λ k. k.start) is in let passed = ap (λ u. u.passed) at in
      ((sym passed ∙ start, subst (λ k. k ≤ length log) start s.1), (λ uncut. let old = near uncut in omega (arith, s.0, known, start, passed)))
  harvested log closed places (Open n r) m w e f s near = let is = same_Some n m e in let at = same_Some (record { passed = r.passed; held = r.held }) w f in
      let known = ap (λ k. k.known) is in let start = ap (λ k. k.start) is in let cut_is = ap (λ k. k.cut) is in let passed = ap (λ u. u.passed) at in let held = ap (λ u. u.held) at in
      let low = s.start in let mid = s.known in let high = s.passed in (
        record {
          got = s.got ∙ ap (λ k. drop k (take r.passed log)) start;
          start = omega arith;
          known = omega arith;
          passed = s.passed;
          seen = s.seen;
          held = s.held;
          told = s.told;
          told_cut = λ t. sym cut_is ∙ s.told_cut t;
          in_hand = λ c h. (sym held ∙ h, sym passed);
        },
        (λ uncut. let old = near uncut in omega arith),
      )
  harvested log closed places (Left n) m w e f s near = absurd (none-some w f)

  -- a lane that is cut stays sound
  cuts : (log : List X) (closed : Bool) (v : Lane X) (m : LaneRecord) → record_of v ≡ Some m → word_of v ≡ Some (record { passed = m.known; held = m.key_out }) → IsLaneSound log closed v
      → IsLaneSound log closed (with_record (record m { cut = true }) v)
  cuts log closed Idle m e f s = absurd (none-some m e)
  cuts log closed (Admitted n) m e f s = let is = same_Some n m e in let known = ap (λ k. k.known) is in let start = ap (λ k. k.start) is in
      (sym known ∙ s.0 ∙ start, subst (λ k. k ≤ length log) start s.1)
  cuts log closed (Open n r) m e f s = let is = same_Some n m e in let at = same_Some (record { passed = r.passed; held = r.held }) (record { passed = m.known; held = m.key_out }) f in
      let known = ap (λ k. k.known) is in let start = ap (λ k. k.start) is in let passed = ap (λ u. u.passed) at in let held = ap (λ u. u.held) at in let low = s.start in let mid = s.known in
      record {
        got = s.got ∙ ap (λ k. drop k (take r.passed log)) start;
        start = omega arith;
        known = omega arith;
        passed = s.passed;
        seen = s.seen;
        held = s.held;
        told = s.told;
        told_cut = λ t. refl;
        in_hand = λ c h. (sym held ∙ h, sym passed);
      }
  cuts log closed (Left n) m e f s = absurd (none-some (record { passed = m.known; held = m.key_out }) f)

  no-cut-within : (length places : ℕ) (v : Lane X) (m : LaneRecord) → m.cut ≡ true → Within length places (with_record m v)
  no-cut-within length places Idle m e = tt
  no-cut-within length places (Admitted n) m e = λ uncut. absurd (false≢true (sym uncut ∙ e))
  no-cut-within length places (Open n r) m e = λ uncut. absurd (false≢true (sym uncut ∙ e))
  no-cut-within length places (Left n) m e = λ uncut. absurd (false≢true (sym uncut ∙ e))

  taken : (log : List X) (closed : Bool) (m : LaneRecord) (r : Cursor X) → IsCursorSound log closed m r → r.held ≡ false → r.passed < r.seen → (b : Bool) → m.cut ≡ b
      → IsCursorSound log closed m (cond b (record r { told_cut = true }) (record r { held = true }))
  taken log closed m r s free some true e = record {
    got = s.got;
    start = s.start;
    known = s.known;
    passed = s.passed;
    seen = s.seen;
    held = s.held;
    told = s.told;
    told_cut = λ t. e;
    in_hand = s.in_hand;
  }
  taken log closed m r s free some false e = record {
    got = s.got;
    start = s.start;
    known = s.known;
    passed = s.passed;
    seen = s.seen;
    held = λ h. some;
    told = s.told;
    told_cut = s.told_cut;
    in_hand = λ c h. absurd (false≢true (sym e ∙ c));
  }

  passes : (log : List X) (closed : Bool) (m : LaneRecord) (r : Cursor X) (x : X) → IsCursorSound log closed m r → r.held ≡ true → slice_get log r.passed ≡ Some x
      → IsCursorSound log closed m (record r { passed = r.passed + 1; held = false; told_cut = r.told_cut || m.cut; got = r.got ++ x ∷ [] })
  passes log closed m r x s held name = let low = s.start in let mid = s.known in let some = s.held held in let within = slice_get_within log r.passed x name in record {
    got = ap (λ l. l ++ x ∷ []) s.got ∙ sym (drop-append-le m.start (take r.passed log) (x ∷ []) (omega (arith, length-take r.passed log))) ∙ ap (drop m.start) (sym (take_more_at log r.passed x name));
    start = s.start;
    known = omega arith;
    passed = omega arith;
    seen = s.seen;
    held = λ h. absurd (false≢true h);
    told = s.told;
    told_cut = λ t. elim (or_cases r.told_cut m.cut t) [ inl a ↦ s.told_cut a | inr b ↦ b ];
    in_hand = λ c h. absurd (false≢true h);
  }

  at : (c : Core X) (l : ℕ) (v : Lane X) → c.lane l ≡ v → IsSound c → IsLaneSound c.log c.closed v
  at c l v e s = subst (IsLaneSound c.log c.closed) e (s.lane l)

  near : (c : Core X) (l : ℕ) (v : Lane X) (m : LaneRecord) → c.lane l ≡ v → record_of v ≡ Some m → IsSound c → m.cut ≡ false → length c.log - m.known ≤ c.places
  near c l v m e is s = s.behind l m (ap record_of e ∙ is)

  noted : (c d : Core X) (p : ℕ) (v : Poster X) → OnlyPoster c p v d → IsSound c → IsPosterSound c.log v → IsSound d
  noted c d p v n s good = let same = n.same in
      let onto : (q : ℕ) → IsPosterSound c.log (d.poster q) = λ q. elim (cases_eq q p) [
        | inl e ↦ subst (λ i. IsPosterSound c.log (d.poster i)) (sym e) (subst (IsPosterSound c.log) (sym n.here) good)
        | inr ne ↦ subst (IsPosterSound c.log) (sym (n.other q ne)) (s.poster q)
      ] in
      record {
        lane = λ l. subst (λ (q : List X × Bool × Lane X). IsLaneSound q.0 q.1 q.2) (λ i. (sym same.log i, sym same.closed i, sym (n.lane l) i)) (s.lane l);
        behind = λ l m is uncut. subst (λ (q : List X × ℕ). length q.0 - m.known ≤ q.1) (λ i. (sym same.log i, sym same.places i)) (s.behind l m (ap record_of (sym (n.lane l)) ∙ is) uncut);
        poster = λ q. subst (λ log. IsPosterSound log (d.poster q)) (sym same.log) (onto q);
      }

  owns : (c : Core X) (v : Poster X) (post : Option (ℕ × X)) → IsPosterSound c.log v → MayOwn c.log v post → IsPosterSound c.log (record { places_known = length c.log; own = with_own v.own post })
  owns c v None s may = let low = s.places_known in record {
    places_known = omega arith;
    own = All-weaker (λ post. (slice_get c.log post.0 ≡ Some post.1) × (post.0 < v.places_known)) (λ post. (slice_get c.log post.0 ≡ Some post.1) × (post.0 < length c.log)) (λ post h. let below = h.1 in (h.0, omega arith)) v.own s.own;
  }
  owns c v (Some one) s may = let low = s.places_known in record {
    places_known = omega arith;
    own = All-push (λ post. (slice_get c.log post.0 ≡ Some post.1) × (post.0 < length c.log)) v.own one
        (All-weaker (λ post. (slice_get c.log post.0 ≡ Some post.1) × (post.0 < v.places_known)) (λ post. (slice_get c.log post.0 ≡ Some post.1) × (post.0 < length c.log)) (λ post h. let below = h.1 in (h.0, omega arith)) v.own s.own)
        (may.0, slice_get_within c.log one.0 one.1 may.0);
  }

  pub keeps_sound : (c d : Core X) (e : event.Event X) → IsSound c → Step c e d → IsSound d
  keeps_sound _ _ _ s (publish c d x fine room g) = let more = length-append c.log (x ∷ []) in
      grown c d (c.log ++ x ∷ []) false g (λ l. longer c.log x (c.lane l) (subst (λ b. IsLaneSound c.log b (c.lane l)) fine (s.lane l)))
      (λ l m is uncut. let some = room l m is uncut in omega arith) (λ p. informed c.log x (c.poster p) (s.poster p))
  keeps_sound _ _ _ s (close c d fine g) = grown c d c.log true g (λ l. closes c.log (c.lane l) (subst (λ b. IsLaneSound c.log b (c.lane l)) fine (s.lane l))) s.behind s.poster
  keeps_sound _ _ _ s (harvest c d l m w is word t) = let good = harvested c.log c.closed c.places (c.lane l) m w is word (s.lane l) (λ uncut. s.behind l m is uncut) in turned c d l _ t s good.0 good.1
  keeps_sound _ _ _ s (admit c d l within idle fine t) = turned c d l _ t s (refl, omega arith) (λ uncut. omega arith)
  keeps_sound _ _ _ s (opens c d l m is t) = let old = at c l _ is s in let same = old.0 in let low = old.1 in turned c d l _ t s
      (record {
        got = sym (drop_take_same c.log m.start low);
        start = omega arith;
        known = omega arith;
        passed = omega arith;
        seen = low;
        held = λ h. absurd (false≢true h);
        told = λ h. absurd (false≢true h);
        told_cut = λ h. absurd (false≢true h);
        in_hand = λ c h. absurd (false≢true h);
      }) (near c l _ m is refl s)
  keeps_sound _ _ _ s (look c d l m r is t) = let old = at c l _ is s in let high = old.passed in let seen = old.seen in turned c d l _ t s
      (record {
        got = old.got;
        start = old.start;
        known = old.known;
        passed = omega arith;
        seen = omega arith;
        held = λ h. let some = old.held h in omega arith;
        told = λ h. (h, refl);
        told_cut = old.told_cut;
        in_hand = old.in_hand;
      }) (near c l _ m is refl s)
  keeps_sound _ _ _ s (takes c d l m r is free some t) = let old = at c l _ is s in turned c d l _ t s (taken c.log c.closed m r old free some m.cut refl) (near c l _ m is refl s)
  keeps_sound _ _ _ s (pass c d l m r x is held name t) = let old = at c l _ is s in turned c d l _ t s (passes c.log c.closed m r x old held name) (near c l _ m is refl s)
  keeps_sound _ _ _ s (cut c d l m is word uncut far t) = turned c d l _ t s (cuts c.log c.closed (c.lane l) m is word (s.lane l)) (no-cut-within (length c.log) c.places (c.lane l) (record m { cut = true }) refl)
  keeps_sound _ _ _ s (leave c d l m r is t) = let old = at c l _ is s in let a = old.start in let b = old.known in let h = old.passed in let z = old.seen in turned c d l _ t s (a, omega arith) (near c l _ m is refl s)
  keeps_sound _ _ _ s (retire c d l m is t) = turned c d l _ t s tt tt
  keeps_sound _ _ _ s (note c d p post within may n) = noted c d p _ n s (owns c (c.poster p) post (s.poster p) may)

  pub first_state_sound : (places lanes posters : ℕ) → IsSound (first_state {X = X} places lanes posters)
  first_state_sound places lanes posters = record {
    lane = λ l. tt;
    behind = λ l m is uncut. absurd (none-some m is);
    poster = λ p. record { places_known = omega arith; own = λ k d h. absurd (omega arith) };
  }
