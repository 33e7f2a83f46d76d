-- What holds over every list of events.
use Rattle.std.proofs.Common.{◌≡◌, ◌≢◌, ℕ, zero, suc, ◌-◌, ◌<◌, ◌≤◌, inl, inr, true, false, cond, nat_eq, nat_lt, List, [], ◌∷◌, ◌++◌, length, Some, refl, sym, ap, ◌∙◌, subst, arith}
use Rattle.std.proofs.lemmas.Bool.{eq-eqb, ne_eqb, cases_lt, lt-ltb, le-ltb}
use Rattle.std.proofs.lemmas.Option.{none-some}
use Rattle.am_steps.specs.declared.lane_record.LaneRecord.{LaneRecord}
use Rattle.am_steps.specs.declared.lane.Lane.TheVariants.{Idle, Admitted}
use Rattle.am_steps.specs.declared.event.Event as event
use Rattle.am_steps.specs.declared.event.Event.TheVariants as does
use Rattle.am_steps.specs.States.{Core, record_of, new_record, new_open_lane, first_state, first_state_open}
use Rattle.am_steps.specs.Steps.{Step, publish, close, harvest, admit, opens, look, take as takes, pass, cut, leave, retire, note}
use Rattle.am_steps.specs.Runs.{LeadsTo, none, then, HasNoCut, open_each}
use Rattle.am_steps.specs.Soundness.{IsSound}
use Rattle.am_steps.specs.Needed.{IsFreed}
use Rattle.am_steps.proofs.Steps.{closed_step, places_step, EachRecord, each_record_lane, each_record_same, holds_with_record}
use Rattle.am_steps.proofs.Soundness.{keeps_sound, first_state_sound}
use Rattle.am_steps.proofs.Needed.{freed_step}

abbrev Uncut : LaneRecord → Type 0
Uncut m = m.cut ≡ false

module _ {X : Type 0} where
  pub runs_sound : (c d : Core X) (es : List (event.Event X)) → IsSound c → LeadsTo c es d → IsSound d
  runs_sound _ _ _ s (none c) = s
  runs_sound _ _ _ s (then c d f e es one rest) = runs_sound d f es (keeps_sound c d e s one) rest

  pub freed_stays : (c d : Core X) (es : List (event.Event X)) (i : ℕ) → IsSound c → LeadsTo c es d → IsFreed c i → IsFreed d i
  freed_stays _ _ _ i s (none c) f = f
  freed_stays _ _ _ i s (then c d g e es one rest) f = freed_stays d g es i (keeps_sound c d e s one) rest (freed_step c d e i s one f)

  pub closed_stays : (c d : Core X) (es : List (event.Event X)) → c.closed ≡ true → LeadsTo c es d → (d.closed ≡ true) × (d.log ≡ c.log)
  closed_stays _ _ _ e (none c) = (e, refl)
  closed_stays _ _ _ e (then c d f a es one rest) = let now = closed_step c d a e one in let on = closed_stays d f es now.0 rest in (on.0, on.1 ∙ now.1)

  uncut_step : (c d : Core X) (e : event.Event X) (es : List (event.Event X)) → HasNoCut (e ∷ es) → EachRecord Uncut c → Step c e d → EachRecord Uncut d × HasNoCut es
  uncut_step _ _ _ es bare u (publish c d x fine room g) = (each_record_same Uncut c d g.lane u, bare)
  uncut_step _ _ _ es bare u (close c d fine g) = (each_record_same Uncut c d g.lane u, bare)
  uncut_step _ _ _ es bare u (harvest c d l m w is word t) = (each_record_lane Uncut c d l _ t u (holds_with_record Uncut (c.lane l) _ (u l m is)), bare)
  uncut_step _ _ _ es bare u (admit c d l inside idle fine t) = (each_record_lane Uncut c d l _ t u refl, bare)
  uncut_step _ _ _ es bare u (opens c d l m is t) = (each_record_lane Uncut c d l _ t u (u l m (ap record_of is)), bare)
  uncut_step _ _ _ es bare u (look c d l m r is t) = (each_record_lane Uncut c d l _ t u (u l m (ap record_of is)), bare)
  uncut_step _ _ _ es bare u (takes c d l m r is free some t) = (each_record_lane Uncut c d l _ t u (u l m (ap record_of is)), bare)
  uncut_step _ _ _ es bare u (pass c d l m r x is held name t) = (each_record_lane Uncut c d l _ t u (u l m (ap record_of is)), bare)
  uncut_step _ _ _ es bare u (cut c d l m is word uncut far t) = absurd bare
  uncut_step _ _ _ es bare u (leave c d l m r is t) = (each_record_lane Uncut c d l _ t u (u l m (ap record_of is)), bare)
  uncut_step _ _ _ es bare u (retire c d l m is t) = (each_record_lane Uncut c d l _ t u tt, bare)
  uncut_step _ _ _ es bare u (note c d p post inside may n) = (each_record_same Uncut c d n.lane u, bare)

  stays_uncut : (c d : Core X) (es : List (event.Event X)) → HasNoCut es → EachRecord Uncut c → LeadsTo c es d → EachRecord Uncut d × (d.places ≡ c.places)
  stays_uncut _ _ _ bare u (none c) = (u, refl)
  stays_uncut _ _ _ bare u (then c d f e es one rest) = let now = uncut_step c d e es bare u one in let on = stays_uncut d f es now.1 now.0 rest in (on.0, on.1 ∙ places_step c d e one)

  pub within_places : (places lanes posters : ℕ) (es : List (event.Event X)) (c : Core X) → HasNoCut es → LeadsTo (first_state places lanes posters) es c
      → (l : ℕ) (m : LaneRecord) → record_of (c.lane l) ≡ Some m → length c.log - m.known ≤ places
  within_places places lanes posters es c bare runs l m is =
      let first = first_state {X = X} places lanes posters in let u = stays_uncut first c es bare (λ k n e. absurd (none-some n e)) runs in
      subst (λ n. length c.log - m.known ≤ n) u.1 ((runs_sound first c es (first_state_sound places lanes posters) runs).behind l m is (u.0 l m is))

one_past : (l k : ℕ) → l ≢ k → nat_lt l (suc k) ≡ nat_lt l k
one_past l k ne = elim (cases_lt l k) [
  | inl h ↦ (lt-ltb l (suc k) (omega arith) ∙ sym (lt-ltb l k h))
  | inr h ↦ (le-ltb l (suc k) (omega arith) ∙ sym (le-ltb l k h))
]

module _ {X : Type 0} where
  then_also : (c d f : Core X) (es fs : List (event.Event X)) → LeadsTo c es d → LeadsTo d fs f → LeadsTo c (es ++ fs) f
  then_also _ _ f _ fs (none c) more = more
  then_also _ _ f _ fs (then c d g e es one rest) more = then c d f e (es ++ fs) one (then_also d g f es fs rest more)

module _ {X : Type 0} (places lanes posters : ℕ) where
  -- the lanes below a number are open
  abbrev some_open : ℕ → Core X
  some_open k = record (first_state_open {X = X} places lanes posters) { lane = λ l. cond (nat_lt l k) new_open_lane Idle }

  -- and that lane is admitted
  abbrev one_more : ℕ → Core X
  one_more k = record (first_state_open {X = X} places lanes posters) { lane = λ l. cond (nat_eq l k) (Admitted (new_record 0)) (cond (nat_lt l k) new_open_lane Idle) }

  admits : (k : ℕ) → k < lanes → Step (some_open k) (does.Admit k) (one_more k)
  admits k h = admit (some_open k) (one_more k) k h (ap (λ b. cond b new_open_lane Idle) (le-ltb k k (omega arith))) refl
      (record {
        same = record { places = refl; log = refl; closed = refl; lanes = refl; posters = refl };
        here = ap (λ b. cond b (Admitted (new_record 0)) (cond (nat_lt k k) new_open_lane Idle)) (eq-eqb k k refl);
        other = λ l ne. ap (λ b. cond b (Admitted (new_record 0)) (cond (nat_lt l k) new_open_lane Idle)) (ne_eqb l k ne);
        poster = λ p. refl;
      })

  opens_one : (k : ℕ) → Step (one_more k) (does.Open k) (some_open (suc k))
  opens_one k = opens (one_more k) (some_open (suc k)) k (new_record 0)
      (ap (λ b. cond b (Admitted (new_record 0)) (cond (nat_lt k k) new_open_lane Idle)) (eq-eqb k k refl))
      (record {
        same = record { places = refl; log = refl; closed = refl; lanes = refl; posters = refl };
        here = ap (λ b. cond b new_open_lane Idle) (lt-ltb k (suc k) (omega arith));
        other = λ l ne. ap (λ b. cond b new_open_lane Idle) (one_past l k ne) ∙ sym (ap (λ b. cond b (Admitted (new_record 0)) (cond (nat_lt l k) new_open_lane Idle)) (ne_eqb l k ne));
        poster = λ p. refl;
      })

  none_open : first_state places lanes posters ≡ some_open 0
  none_open = λ i. record (first_state {X = X} places lanes posters) { lane = λ l. ap (λ b. cond b new_open_lane Idle) (sym (le-ltb l 0 (omega arith))) i }

  so_far : (k : ℕ) → k ≤ lanes → LeadsTo {X = X} (first_state places lanes posters) (open_each k) (some_open k)
  so_far zero h = subst (λ d. LeadsTo (first_state places lanes posters) [] d) none_open (none (first_state places lanes posters))
  so_far (suc k) h = then_also (first_state places lanes posters) (some_open k) (some_open (suc k)) (open_each k) (does.Admit k ∷ does.Open k ∷ []) (so_far k (omega arith))
      (then _ _ _ _ _ (admits k (omega arith)) (then _ _ _ _ _ (opens_one k) (none (some_open (suc k)))))

  pub each_opens : LeadsTo {X = X} (first_state places lanes posters) (open_each lanes) (first_state_open places lanes posters)
  each_opens = so_far lanes (omega arith)
