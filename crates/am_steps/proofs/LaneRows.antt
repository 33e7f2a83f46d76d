-- Each row of the table by the lane that it changes, and what is asked of each lane.
use Rattle.std.proofs.Common.{◌≡◌, ℕ, suc, ◌+◌, ◌-◌, ◌<◌, ◌≤◌, ◌⊎◌, inl, inr, Bool, true, false, cond, not, ◌&&◌, ◌||◌, nat_eq, nat_lt, nat_le, List, [], ◌∷◌, ◌++◌, length, slice_get, Option, Some, None, MatchOption, refl, sym, ap, ◌∙◌, subst, arith}
use Rattle.std.proofs.lemmas.Bool.{false≢true, eqb-true, eq-eqb, and_parts, and_from, ltb-true, lt-ltb, leb-true, le-leb, not-true, not_from_false, false_from_ne_true, both_ways}
use Rattle.std.proofs.lemmas.Bool.Decides.{leb_tells}
use Rattle.std.proofs.lemmas.Option.{none-some, same_Some}
use Rattle.am_steps.specs.declared.lane_record.LaneRecord.{LaneRecord}
use Rattle.am_steps.specs.declared.cursor.Cursor.{Cursor}
use Rattle.am_steps.specs.declared.lane.Lane.{Lane}
use Rattle.am_steps.specs.declared.lane.Lane.TheVariants.{Idle, Admitted, Open, Left}
use Rattle.am_steps.specs.declared.event.Event as event
use Rattle.am_steps.specs.declared.event.Event.TheVariants as does
use Rattle.am_steps.specs.States.{Core, record_of, with_record, word_of}
use Rattle.am_steps.specs.Steps.{OnlyLane, Step, harvest, admit, opens, look, take as takes, pass, cut, leave, retire}
use Rattle.am_steps.specs.Soundness.{IsLaneSound}
use Rattle.am_steps.specs.Needed.{KeepsKey}
use Rattle.am_steps.specs.inside.LaneRows.{after_harvest, after_admit, after_open, after_look, after_take, after_pass, place_in_hand, after_cut, may_cut, after_leave, after_retire, leaves_room, keeps_none, keeps_key}
use Rattle.am_steps.proofs.States.{admitted_record, open_parts, left_record}
use Rattle.am_steps.proofs.Steps.{of_harvest, of_admit, of_open, of_look, of_take, of_pass, of_cut, of_leave, of_retire}

-- what becomes of the lane decides whether there is a next state, and which
abbrev pub Decides : {X : Type 0} → Core X → event.Event X → ℕ → Option (Lane X) → Type 0
Decides {X} c e l next = MatchOption next ((d : Core X) → Step c e d → ⊥) (λ v. (d : Core X) → OnlyLane c l v d → Step c e d)

module _ {X : Type 0} (c : Core X) (l : ℕ) where
  pub decide_harvest : (v : Lane X) → c.lane l ≡ v → Decides c (does.Harvest l) l (after_harvest v)
  decide_harvest Idle e = λ d step. let u = of_harvest c l d step in none-some u.0 (sym (ap record_of e) ∙ u.2)
  decide_harvest (Admitted m) e = λ d t. harvest c d l m (record { passed = m.start; held = false }) (ap record_of e) (ap word_of e) (subst (λ v. OnlyLane c l (with_record (record m { known = m.start; key_out = false }) v) d) (sym e) t)
  decide_harvest (Open m r) e = λ d t. harvest c d l m (record { passed = r.passed; held = r.held }) (ap record_of e) (ap word_of e) (subst (λ v. OnlyLane c l (with_record (record m { known = r.passed; key_out = r.held }) v) d) (sym e) t)
  decide_harvest (Left m) e = λ d step. let u = of_harvest c l d step in none-some u.1 (sym (ap word_of e) ∙ u.3)

  pub decide_admit : l < c.lanes → c.closed ≡ false → (n : ℕ) → n ≡ length c.log → (v : Lane X) → c.lane l ≡ v → Decides c (does.Admit l) l (after_admit n v)
  decide_admit inside fine n is Idle e = λ d t. admit c d l inside e fine (subst (λ k. OnlyLane c l (Admitted (record { start = k; known = k; key_out = false; cut = false })) d) is t)
  decide_admit inside fine n is (Admitted m) e = λ d step. none-some m (ap record_of (sym (of_admit c l d step).1) ∙ ap record_of e)
  decide_admit inside fine n is (Open m r) e = λ d step. none-some m (ap record_of (sym (of_admit c l d step).1) ∙ ap record_of e)
  decide_admit inside fine n is (Left m) e = λ d step. none-some m (ap record_of (sym (of_admit c l d step).1) ∙ ap record_of e)

  pub decide_open : (v : Lane X) → c.lane l ≡ v → Decides c (does.Open l) l (after_open v)
  decide_open Idle e = λ d step. let u = of_open c l d step in none-some u.0 (ap admitted_record (sym e ∙ u.1))
  decide_open (Admitted m) e = λ d t. opens c d l m e t
  decide_open (Open m r) e = λ d step. let u = of_open c l d step in none-some u.0 (ap admitted_record (sym e ∙ u.1))
  decide_open (Left m) e = λ d step. let u = of_open c l d step in none-some u.0 (ap admitted_record (sym e ∙ u.1))

  pub decide_look : (n : ℕ) → n ≡ length c.log → (v : Lane X) → c.lane l ≡ v → Decides c (does.Look l) l (after_look n c.closed v)
  decide_look n is Idle e = λ d step. let u = of_look c l d step in none-some (u.0, u.1) (ap open_parts (sym e ∙ u.2))
  decide_look n is (Admitted m) e = λ d step. let u = of_look c l d step in none-some (u.0, u.1) (ap open_parts (sym e ∙ u.2))
  decide_look n is (Open m r) e = λ d t. look c d l m r e (subst (λ k. OnlyLane c l (Open m (record r { seen = k; told = c.closed })) d) is t)
  decide_look n is (Left m) e = λ d step. let u = of_look c l d step in none-some (u.0, u.1) (ap open_parts (sym e ∙ u.2))

  decide_open_take : (m : LaneRecord) (r : Cursor X) → c.lane l ≡ Open m r → (h b : Bool) → r.held ≡ h → nat_lt r.passed r.seen ≡ b → ((b ≡ true) → r.passed < r.seen) → ((b ≡ false) → r.seen ≤ r.passed)
      → Decides c (does.Take l) l (cond (not h && b) (Some (Open m (cond m.cut (record r { told_cut = true }) (record r { held = true })))) None)
  decide_open_take m r e true b held lt below above = λ d step. let u = of_take c l d step in
      let same = same_Some (m, r) (u.0, u.1) (ap open_parts (sym e ∙ u.2)) in false≢true (sym (ap (λ p. p.1.held) same ∙ u.3) ∙ held)
  decide_open_take m r e false true held lt below above = λ d t. takes c d l m r e held (below refl) t
  decide_open_take m r e false false held lt below above = λ d step. let u = of_take c l d step in
      let same = same_Some (m, r) (u.0, u.1) (ap open_parts (sym e ∙ u.2)) in let high = above refl in let p = ap (λ p. p.1.passed) same in let q = ap (λ p. p.1.seen) same in omega (arith, u.4)

  pub decide_take : (v : Lane X) → c.lane l ≡ v → Decides c (does.Take l) l (after_take v)
  decide_take Idle e = λ d step. let u = of_take c l d step in none-some (u.0, u.1) (ap open_parts (sym e ∙ u.2))
  decide_take (Admitted m) e = λ d step. let u = of_take c l d step in none-some (u.0, u.1) (ap open_parts (sym e ∙ u.2))
  decide_take (Open m r) e = decide_open_take m r e r.held (nat_lt r.passed r.seen) refl refl
      (λ b. elim (leb_tells (suc r.passed) r.seen) [ inl h ↦ (let low = h.1 in omega arith) | inr h ↦ absurd (false≢true (sym h.0 ∙ b)) ])
      (λ b. elim (leb_tells (suc r.passed) r.seen) [ inl h ↦ absurd (false≢true (sym b ∙ h.0)) | inr h ↦ (let low = h.1 in omega arith) ])
  decide_take (Left m) e = λ d step. let u = of_take c l d step in none-some (u.0, u.1) (ap open_parts (sym e ∙ u.2))

  -- nothing is held where a lane can't pass
  pub not_passed : (v : Lane X) → c.lane l ≡ v → place_in_hand v ≡ None → (d : Core X) → Step c (does.Pass l) d → ⊥
  not_passed v e nothing d step = let u = of_pass c l d step in none-some u.1.passed (sym nothing ∙ ap place_in_hand (sym e ∙ u.3) ∙ ap (λ b. cond b (Some u.1.passed) None) u.4)

  decide_open_pass : (m : LaneRecord) (r : Cursor X) (x : X) → c.lane l ≡ Open m r → (h : Bool) → r.held ≡ h → (r.held ≡ true → slice_get c.log r.passed ≡ Some x)
      → Decides c (does.Pass l) l (cond h (Some (Open m (record r { passed = r.passed + 1; held = false; told_cut = r.told_cut || m.cut; got = r.got ++ x ∷ [] }))) None)
  decide_open_pass m r x e true held name = λ d t. pass c d l m r x e held (name held) t
  decide_open_pass m r x e false held name = not_passed (Open m r) e (ap (λ b. cond b (Some r.passed) None) held)

  pub decide_pass : (x : X) (v : Lane X) → ((place : ℕ) → place_in_hand v ≡ Some place → slice_get c.log place ≡ Some x) → c.lane l ≡ v → Decides c (does.Pass l) l (after_pass x v)
  decide_pass x Idle name e = not_passed Idle e refl
  decide_pass x (Admitted m) name e = not_passed (Admitted m) e refl
  decide_pass x (Open m r) name e = decide_open_pass m r x e r.held refl (λ held. name r.passed (ap (λ b. cond b (Some r.passed) None) held))
  decide_pass x (Left m) name e = not_passed (Left m) e refl

  pub decide_leave : (v : Lane X) → c.lane l ≡ v → Decides c (does.Leave l) l (after_leave v)
  decide_leave Idle e = λ d step. let u = of_leave c l d step in none-some (u.0, u.1) (ap open_parts (sym e ∙ u.2))
  decide_leave (Admitted m) e = λ d step. let u = of_leave c l d step in none-some (u.0, u.1) (ap open_parts (sym e ∙ u.2))
  decide_leave (Open m r) e = λ d t. leave c d l m r e t
  decide_leave (Left m) e = λ d step. let u = of_leave c l d step in none-some (u.0, u.1) (ap open_parts (sym e ∙ u.2))

  pub decide_retire : (v : Lane X) → c.lane l ≡ v → Decides c (does.Retire l) l (after_retire v)
  decide_retire Idle e = λ d step. let u = of_retire c l d step in none-some u.0 (ap left_record (sym e ∙ u.1))
  decide_retire (Admitted m) e = λ d step. let u = of_retire c l d step in none-some u.0 (ap left_record (sym e ∙ u.1))
  decide_retire (Open m r) e = λ d step. let u = of_retire c l d step in none-some u.0 (ap left_record (sym e ∙ u.1))
  decide_retire (Left m) e = λ d t. retire c d l m e t

-- a test that is all of four
four : (a b c d : Bool) → (not a && (b && (c && d))) ≡ true → (a ≡ false) × (b ≡ true) × (c ≡ true) × (d ≡ true)
four false true true true e = (refl, refl, refl, refl)
four false true true false e = absurd (false≢true e)
four false true false d e = absurd (false≢true e)
four false false c d e = absurd (false≢true e)
four true b c d e = absurd (false≢true e)

alike : (a b : Bool) → cond b a (not a) ≡ true → a ≡ b
alike true true e = refl
alike true false e = absurd (false≢true e)
alike false true e = absurd (false≢true e)
alike false false e = refl

is_alike : (a : Bool) → cond a a (not a) ≡ true
is_alike true = refl
is_alike false = refl

may_cut_tells : (places length : ℕ) (m : LaneRecord) (passed : ℕ) (held : Bool) → may_cut places length m passed held ≡ true → (m.cut ≡ false) × (passed ≡ m.known) × (held ≡ m.key_out) × (m.known + places ≡ length)
may_cut_tells places length m passed held e = let f = four m.cut (nat_eq passed m.known) (cond m.key_out held (not held)) (nat_eq (m.known + places) length) e in
    (f.0, eqb-true passed m.known f.1, alike held m.key_out f.2, eqb-true (m.known + places) length f.3)

may_cut_from : (places length : ℕ) (m : LaneRecord) (passed : ℕ) (held : Bool) → m.cut ≡ false → passed ≡ m.known → held ≡ m.key_out → m.known + places ≡ length → may_cut places length m passed held ≡ true
may_cut_from places length m passed held uncut p h far =
    ap (λ b. not b && (nat_eq passed m.known && (cond m.key_out held (not held) && nat_eq (m.known + places) length))) uncut
    ∙ ap (λ b. b && (cond m.key_out held (not held) && nat_eq (m.known + places) length)) (eq-eqb passed m.known p)
    ∙ ap (λ k. cond m.key_out k (not k) && nat_eq (m.known + places) length) h
    ∙ ap (λ b. b && nat_eq (m.known + places) length) (is_alike m.key_out)
    ∙ eq-eqb (m.known + places) length far

module _ {X : Type 0} (c : Core X) (l : ℕ) where
  -- a lane whose word is this
  by_word : (v : Lane X) (m : LaneRecord) (passed : ℕ) (held : Bool) → c.lane l ≡ v → record_of v ≡ Some m → word_of v ≡ Some (record { passed = passed; held = held }) → (b : Bool) → may_cut c.places (length c.log) m passed held ≡ b
      → Decides c (does.Cut l) l (cond b (Some (with_record (record m { cut = true }) v)) None)
  by_word v m passed held e is word true due = λ d t. let f = may_cut_tells c.places (length c.log) m passed held due in
      cut c d l m (ap record_of e ∙ is) (ap word_of e ∙ word ∙ (λ i. Some (record { passed = f.1 i; held = f.2 i }))) f.0 f.3 (subst (λ u. OnlyLane c l (with_record (record m { cut = true }) u) d) (sym e) t)
  by_word v m passed held e is word false due = λ d step. let u = of_cut c l d step in let n = u.0 in
      let same = same_Some m n (sym is ∙ ap record_of (sym e) ∙ u.1) in let at = same_Some (record { passed = passed; held = held }) (record { passed = n.known; held = n.key_out }) (sym word ∙ ap word_of (sym e) ∙ u.2) in
      false≢true (sym due ∙ may_cut_from c.places (length c.log) m passed held (ap (λ k. k.cut) same ∙ u.3) (ap (λ w. w.passed) at ∙ ap (λ k. k.known) (sym same)) (ap (λ w. w.held) at ∙ ap (λ k. k.key_out) (sym same))
      (ap (λ k. k.known + c.places) same ∙ u.4))

  pub decide_cut : (n : ℕ) → n ≡ length c.log → (v : Lane X) → c.lane l ≡ v → Decides c (does.Cut l) l (after_cut c.places n v)
  decide_cut n is v e = subst (λ k. Decides c (does.Cut l) l (after_cut c.places k v)) (sym is) (by v e)
    where
      by : (v : Lane X) → c.lane l ≡ v → Decides c (does.Cut l) l (after_cut c.places (length c.log) v)
      by Idle e = λ d step. let u = of_cut c l d step in none-some u.0 (ap record_of (sym e) ∙ u.1)
      by (Admitted m) e = by_word (Admitted m) m m.start false e refl refl (may_cut c.places (length c.log) m m.start false) refl
      by (Open m r) e = by_word (Open m r) m r.passed r.held e refl refl (may_cut c.places (length c.log) m r.passed r.held) refl
      by (Left m) e = λ d step. let u = of_cut c l d step in none-some (record { passed = u.0.known; held = u.0.key_out }) (ap word_of (sym e) ∙ u.2)

module _ {X : Type 0} where
  pub held_is : (r : Cursor X) (h : Bool) → r.held ≡ h → (p : ℕ) → cond h (Some r.passed) None ≡ Some p → (r.held ≡ true) × (r.passed ≡ p)
  held_is r true e p is = (e, same_Some r.passed p is)
  held_is r false e p is = absurd (none-some p is)

  pub held_within : (log : List X) (closed : Bool) (v : Lane X) → IsLaneSound log closed v → (p : ℕ) → place_in_hand v ≡ Some p → p < length log
  held_within log closed Idle s p is = absurd (none-some p is)
  held_within log closed (Admitted m) s p is = absurd (none-some p is)
  held_within log closed (Open m r) s p is = let h = held_is r r.held refl p is in let some = s.held h.0 in let seen = s.seen in omega (arith, h.1)
  held_within log closed (Left m) s p is = absurd (none-some p is)

-- a lane that leaves room for a batch more
room_tells : (places n : ℕ) (m : LaneRecord) → (b : Bool) → m.cut ≡ b → (b || nat_lt (n - m.known) places) ≡ true → m.cut ≡ false → n - m.known < places
room_tells places n m true e up uncut = absurd (false≢true (sym uncut ∙ e))
room_tells places n m false e up uncut = ltb-true (n - m.known) places up

room_from : (places n : ℕ) (m : LaneRecord) → (b : Bool) → m.cut ≡ b → (m.cut ≡ false → n - m.known < places) → (b || nat_lt (n - m.known) places) ≡ true
room_from places n m true e h = refl
room_from places n m false e h = lt-ltb (n - m.known) places (h e)

keeps_key_tells : (i : ℕ) (m : LaneRecord) → keeps_key i m ≡ true → KeepsKey m i
keeps_key_tells i m = by m.cut
  where
    by : (b : Bool) → cond b (m.key_out && nat_eq i m.known) (nat_le m.start i && nat_le m.known i) ≡ true → cond b ((m.key_out ≡ true) × (i ≡ m.known)) ((m.start ≤ i) × (m.known ≤ i))
    by true e = let h = and_parts m.key_out (nat_eq i m.known) e in (h.0, eqb-true i m.known h.1)
    by false e = let h = and_parts (nat_le m.start i) (nat_le m.known i) e in (leb-true m.start i h.0, leb-true m.known i h.1)

keeps_key_from : (i : ℕ) (m : LaneRecord) → KeepsKey m i → keeps_key i m ≡ true
keeps_key_from i m = by m.cut
  where
    by : (b : Bool) → cond b ((m.key_out ≡ true) × (i ≡ m.known)) ((m.start ≤ i) × (m.known ≤ i)) → cond b (m.key_out && nat_eq i m.known) (nat_le m.start i && nat_le m.known i) ≡ true
    by true h = and_from m.key_out (nat_eq i m.known) h.0 (eq-eqb i m.known h.1)
    by false h = and_from (nat_le m.start i) (nat_le m.known i) (le-leb m.start i h.0) (le-leb m.known i h.1)

module _ {X : Type 0} where
  pub lane_room_tells : (places n : ℕ) (v : Lane X) → leaves_room places n v ≡ true → (m : LaneRecord) → record_of v ≡ Some m → m.cut ≡ false → n - m.known < places
  lane_room_tells places n Idle e m is = absurd (none-some m is)
  lane_room_tells places n (Admitted k) e m is = subst (λ k. k.cut ≡ false → n - k.known < places) (same_Some k m is) (room_tells places n k k.cut refl e)
  lane_room_tells places n (Open k r) e m is = subst (λ k. k.cut ≡ false → n - k.known < places) (same_Some k m is) (room_tells places n k k.cut refl e)
  lane_room_tells places n (Left k) e m is = subst (λ k. k.cut ≡ false → n - k.known < places) (same_Some k m is) (room_tells places n k k.cut refl e)

  pub lane_room_from : (places n : ℕ) (v : Lane X) → ((m : LaneRecord) → record_of v ≡ Some m → m.cut ≡ false → n - m.known < places) → leaves_room places n v ≡ true
  lane_room_from places n Idle h = refl
  lane_room_from places n (Admitted k) h = room_from places n k k.cut refl (h k refl)
  lane_room_from places n (Open k r) h = room_from places n k k.cut refl (h k refl)
  lane_room_from places n (Left k) h = room_from places n k k.cut refl (h k refl)

  pub keeps_none_tells : (i : ℕ) (v : Lane X) → keeps_none i v ≡ true → (m : LaneRecord) → record_of v ≡ Some m → KeepsKey m i → ⊥
  keeps_none_tells i Idle e m is = absurd (none-some m is)
  keeps_none_tells i (Admitted k) e m is = subst (λ k. KeepsKey k i → ⊥) (same_Some k m is) (λ h. both_ways (keeps_key i k) (not-true (keeps_key i k) e) (keeps_key_from i k h))
  keeps_none_tells i (Open k r) e m is = subst (λ k. KeepsKey k i → ⊥) (same_Some k m is) (λ h. both_ways (keeps_key i k) (not-true (keeps_key i k) e) (keeps_key_from i k h))
  keeps_none_tells i (Left k) e m is = subst (λ k. KeepsKey k i → ⊥) (same_Some k m is) (λ h. both_ways (keeps_key i k) (not-true (keeps_key i k) e) (keeps_key_from i k h))

  pub keeps_none_from : (i : ℕ) (v : Lane X) → ((m : LaneRecord) → record_of v ≡ Some m → KeepsKey m i → ⊥) → keeps_none i v ≡ true
  keeps_none_from i Idle h = refl
  keeps_none_from i (Admitted k) h = not_from_false (keeps_key i k) (false_from_ne_true (keeps_key i k) (λ e. h k refl (keeps_key_tells i k e)))
  keeps_none_from i (Open k r) h = not_from_false (keeps_key i k) (false_from_ne_true (keeps_key i k) (λ e. h k refl (keeps_key_tells i k e)))
  keeps_none_from i (Left k) h = not_from_false (keeps_key i k) (false_from_ne_true (keeps_key i k) (λ e. h k refl (keeps_key_tells i k e)))
