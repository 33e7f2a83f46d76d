-- No needed place is freed, and a freed place stays freed.
use Rattle.std.proofs.Common.{◌≡◌, ℕ, ◌<◌, ◌≤◌, Bool, true, false, cond, List, [], ◌∷◌, length, Some, refl, sym, ap, ◌∙◌, subst, arith, length-append}
use Rattle.std.proofs.lemmas.Bool.{false≢true}
use Rattle.std.proofs.lemmas.Option.{none-some, same_Some}
use Rattle.am_steps.specs.declared.lane_record.LaneRecord.{LaneRecord}
use Rattle.am_steps.specs.declared.lane.Lane.{Lane}
use Rattle.am_steps.specs.declared.lane.Lane.TheVariants.{Idle, Admitted, Open, Left}
use Rattle.am_steps.specs.declared.event.Event as event
use Rattle.am_steps.specs.States.{Core, LaneWord, record_of, word_of}
use Rattle.am_steps.specs.Steps.{SameLog, Step, publish, close, harvest, admit, opens, look, take as takes, pass, cut, leave, retire, note}
use Rattle.am_steps.specs.Soundness.{IsLaneSound, IsSound}
use Rattle.am_steps.specs.Needed.{NeedsPlace, KeepsKey, IsNeeded, IsFreed}
use Rattle.am_steps.proofs.Steps.{each_record_lane, each_record_same, holds_with_record}

-- what the word of a sound lane tells of its record
record Found (m : LaneRecord) (w : LaneWord) : Type 0 where
  start : m.start ≤ m.known
  known : m.known ≤ w.passed
  hand : m.cut ≡ true → w.held ≡ true → (m.key_out ≡ true) × (m.known ≡ w.passed)

needs_keeps : (m : LaneRecord) (w : LaneWord) (i : ℕ) → Found m w → NeedsPlace m w i → KeepsKey m i
needs_keeps m w i f = by m.cut refl
  where
    by : (b : Bool) → m.cut ≡ b → cond b ((w.held ≡ true) × (i ≡ w.passed)) ((m.start ≤ i) × (w.passed ≤ i)) → cond b ((m.key_out ≡ true) × (i ≡ m.known)) ((m.start ≤ i) × (m.known ≤ i))
    by true e n = let h = f.hand e n.0 in (h.0, n.1 ∙ sym h.1)
    by false e n = let low = f.known in (n.0, omega (arith, n.1))

abbrev Unkept : ℕ → LaneRecord → Type 0
Unkept i m = KeepsKey m i → ⊥

-- what the writer keeps after it found the word it kept before
less_kept : (m : LaneRecord) (w : LaneWord) (i : ℕ) → Found m w → Unkept i m → Unkept i (record m { known = w.passed; key_out = w.held })
less_kept m w i f old new = old (by m.cut refl new)
  where
    by : (b : Bool) → m.cut ≡ b → cond b ((w.held ≡ true) × (i ≡ w.passed)) ((m.start ≤ i) × (w.passed ≤ i)) → cond b ((m.key_out ≡ true) × (i ≡ m.known)) ((m.start ≤ i) × (m.known ≤ i))
    by true e n = let h = f.hand e n.0 in (h.0, n.1 ∙ sym h.1)
    by false e n = let low = f.known in (n.0, omega (arith, n.1))

cut_kept : (m : LaneRecord) (i : ℕ) → m.start ≤ m.known → m.cut ≡ false → Unkept i m → Unkept i (record m { cut = true })
cut_kept m i low uncut old new = old (subst (λ b. cond b ((m.key_out ≡ true) × (i ≡ m.known)) ((m.start ≤ i) × (m.known ≤ i))) (sym uncut) (omega (arith, new.1), omega (arith, new.1)))

module _ {X : Type 0} where
  found : (log : List X) (closed : Bool) (v : Lane X) (m : LaneRecord) (w : LaneWord) → IsLaneSound log closed v → record_of v ≡ Some m → word_of v ≡ Some w → Found m w
  found log closed Idle m w s e f = absurd (none-some m e)
  found log closed (Admitted n) m w s e f = let is = same_Some n m e in let at = same_Some (record { passed = n.start; held = false }) w f in
      let first : Found n (record { passed = n.start; held = false }) = record { start = omega (arith, s.0); known = omega (arith, s.0); hand = λ c h. absurd (false≢true h) } in
      subst (λ (p : LaneRecord × LaneWord). Found p.0 p.1) (λ i. (is i, at i)) first
  found log closed (Open n r) m w s e f = let is = same_Some n m e in let at = same_Some (record { passed = r.passed; held = r.held }) w f in
      let first : Found n (record { passed = r.passed; held = r.held }) = record { start = s.start; known = s.known; hand = s.in_hand } in
      subst (λ (p : LaneRecord × LaneWord). Found p.0 p.1) (λ i. (is i, at i)) first
  found log closed (Left n) m w s e f = absurd (none-some w f)

  pub needed_not_freed : (c : Core X) (i : ℕ) → IsSound c → IsNeeded c i → IsFreed c i → ⊥
  needed_not_freed c i s n f = let l = n.1.0 in let m = n.1.1 in let w = n.1.2 in
      f.1 l m n.1.3 (needs_keeps m w i (found c.log c.closed (c.lane l) m w (s.lane l) n.1.3 n.1.4) n.1.5)

  within : (c d : Core X) (i : ℕ) → SameLog c d → i < length c.log → i < length d.log
  within c d i same h = subst (λ log. i < length log) (sym same.log) h

  pub freed_step : (c d : Core X) (e : event.Event X) (i : ℕ) → IsSound c → Step c e d → IsFreed c i → IsFreed d i
  freed_step _ _ _ i s (publish c d x fine room g) f = let more = length-append c.log (x ∷ []) in let low = f.0 in
      (subst (λ log. i < length log) (sym g.log) (omega arith), each_record_same (Unkept i) c d g.lane f.1)
  freed_step _ _ _ i s (close c d fine g) f = (subst (λ log. i < length log) (sym g.log) f.0, each_record_same (Unkept i) c d g.lane f.1)
  freed_step _ _ _ i s (harvest c d l m w is word t) f =
      (within c d i t.same f.0, each_record_lane (Unkept i) c d l _ t f.1 (holds_with_record (Unkept i) (c.lane l) _ (less_kept m w i (found c.log c.closed (c.lane l) m w (s.lane l) is word) (f.1 l m is))))
  freed_step _ _ _ i s (admit c d l inside idle fine t) f = (within c d i t.same f.0, each_record_lane (Unkept i) c d l _ t f.1 (λ keeps. omega (arith, keeps.0, f.0)))
  freed_step _ _ _ i s (opens c d l m is t) f = (within c d i t.same f.0, each_record_lane (Unkept i) c d l _ t f.1 (f.1 l m (ap record_of is)))
  freed_step _ _ _ i s (look c d l m r is t) f = (within c d i t.same f.0, each_record_lane (Unkept i) c d l _ t f.1 (f.1 l m (ap record_of is)))
  freed_step _ _ _ i s (takes c d l m r is free some t) f = (within c d i t.same f.0, each_record_lane (Unkept i) c d l _ t f.1 (f.1 l m (ap record_of is)))
  freed_step _ _ _ i s (pass c d l m r x is held name t) f = (within c d i t.same f.0, each_record_lane (Unkept i) c d l _ t f.1 (f.1 l m (ap record_of is)))
  freed_step _ _ _ i s (cut c d l m is word uncut far t) f =
      (within c d i t.same f.0, each_record_lane (Unkept i) c d l _ t f.1 (holds_with_record (Unkept i) (c.lane l) _ (cut_kept m i (found c.log c.closed (c.lane l) m _ (s.lane l) is word).start uncut (f.1 l m is))))
  freed_step _ _ _ i s (leave c d l m r is t) f = (within c d i t.same f.0, each_record_lane (Unkept i) c d l _ t f.1 (f.1 l m (ap record_of is)))
  freed_step _ _ _ i s (retire c d l m is t) f = (within c d i t.same f.0, each_record_lane (Unkept i) c d l _ t f.1 tt)
  freed_step _ _ _ i s (note c d p post inside may n) f = (within c d i n.same f.0, each_record_same (Unkept i) c d n.lane f.1)
