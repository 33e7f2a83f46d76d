-- What `apply` answers and `freed` tells, by the lanes and posters of a state.
use Rattle.std.proofs.Common.{◌≡◌, ℕ, ◌+◌, ◌-◌, ◌<◌, ◌≤◌, inl, inr, Bool, true, false, cond, ◌||◌, List, [], ◌∷◌, ◌++◌, length, slice_get, get_or, slice_set, Option, Some, None, Result, Ok, Err, IfOk, OnErr, IsSome, refl, sym, ap, ◌∙◌, subst, arith}
use Rattle.std.specs.List.{AllPass}
use Rattle.std.proofs.lemmas.Bool.{cases_lt}
use Rattle.std.proofs.lemmas.List.{get_or-set_same, get_or-set_other, length-set, get_or_default, get_or_past, set-get_or}
use Rattle.std.proofs.lemmas.Option.{MatchOption-at_some, slice_get-get_or, none-some, same_Some}
use Rattle.am_steps.specs.declared.lane_record.LaneRecord.{LaneRecord}
use Rattle.am_steps.specs.declared.lane.Lane.{Lane}
use Rattle.am_steps.specs.declared.lane.Lane.TheVariants.{Idle, Admitted, Open, Left}
use Rattle.am_steps.specs.declared.poster.Poster.{Poster}
use Rattle.am_steps.specs.declared.event.Event as event
use Rattle.am_steps.specs.declared.event.Event.TheVariants as does
use Rattle.am_steps.specs.States.{Core, StateView, core_of, record_of, unaware_poster}
use Rattle.am_steps.specs.Steps.{OnlyLane, OnlyPoster, MayGrow, MayOwn, with_own, Step, publish, note}
use Rattle.am_steps.specs.Soundness.{IsSound}
use Rattle.am_steps.specs.Needed.{KeepsKey, IsFreed}
use Rattle.am_steps.specs.Answers.{Applies, IsPossible}
use Rattle.am_steps.specs.inside.LaneRows.{Becomes, after_pass, place_in_hand, leaves_room, keeps_none, DoesNote}
use Rattle.am_steps.proofs.Steps.{of_publish, of_note}
use Rattle.am_steps.proofs.Soundness.{keeps_sound}
use Rattle.am_steps.proofs.LaneRows.{held_is, held_within, decide_pass, lane_room_tells, lane_room_from, keeps_none_tells, keeps_none_from, Decides}

module _ {X : Type 0} where
  abbrev pub with_lane : StateView X → ℕ → Lane X → StateView X
  with_lane s l v = record s { lanes = slice_set s.lanes l v }

  only_lane_set : (s : StateView X) (l : ℕ) (v : Lane X) → l < length s.lanes → OnlyLane (core_of s) l v (core_of (with_lane s l v))
  only_lane_set s l v h = record {
    same = record { places = refl; log = refl; closed = refl; lanes = length-set s.lanes l v; posters = refl };
    here = get_or-set_same s.lanes l v Idle h;
    other = λ k ne. get_or-set_other s.lanes l k v Idle ne;
    poster = λ p. refl;
  }

  -- an event of a lane, by what the lane's own row makes of it
  goes : (s : StateView X) (e : event.Event X) (l : ℕ) (next : Option (Lane X)) (old new : Lane X) (made : Bool) → IsSound (core_of s) → l < length s.lanes → old ≡ get_or s.lanes l old
      → Decides (core_of s) e l next → Becomes next old new made → Applies s e (with_lane s l new) made × IsSound (core_of (with_lane s l new))
  goes s e l None old new made sound inside is decides becomes =
      let same : with_lane s l new ≡ s = ap (λ lanes. record s { lanes = lanes }) (ap (λ v. slice_set s.lanes l v) (becomes.1 ∙ is) ∙ set-get_or s.lanes l old) in
      (subst (Applies s e (with_lane s l new)) (sym becomes.0) (same, decides), subst (λ t. IsSound (core_of t)) (sym same) sound)
  goes s e l (Some v) old new made sound inside is decides becomes =
      let same : with_lane s l v ≡ with_lane s l new = ap (with_lane s l) (sym becomes.1) in
      let step = decides (core_of (with_lane s l v)) (only_lane_set s l v inside) in (
        subst (λ (p : StateView X × Bool). Applies s e p.0 p.1) (λ i. (same i, sym becomes.0 i)) step,
        subst (λ t. IsSound (core_of t)) same (keeps_sound (core_of s) (core_of (with_lane s l v)) e sound step),
      )

  pub applied : (s o : StateView X) → s ≡ o → (e : event.Event X) (l : ℕ) (row : Lane X → Option (Lane X)) (old new : Lane X) (made : Bool) → IsSound (core_of s) → l < length s.lanes → old ≡ get_or s.lanes l old
      → ((v : Lane X) → (core_of s).lane l ≡ v → Decides (core_of s) e l (row v)) → Becomes (row old) old new made → Applies o e (with_lane s l new) made × IsSound (core_of (with_lane s l new))
  applied s o same e l row old new made sound inside is decide becomes =
      let g = goes s e l (row old) old new made sound inside is (decide old (get_or_default s.lanes l Idle old inside ∙ sym is)) becomes in
      (subst (λ t. Applies t e (with_lane s l new) made) same g.0, g.1)

  pub grows_applies : (s o : StateView X) → s ≡ o → (e : event.Event X) (t : StateView X) → Step (core_of s) e (core_of t) → Step (core_of o) e (core_of t)
  grows_applies s o same e t step = subst (λ u. Step (core_of u) e (core_of t)) same step

  pub refuses : (s o : StateView X) → s ≡ o → (e : event.Event X) → ((d : Core X) → Step (core_of s) e d → ⊥) → (s ≡ o) × ((d : Core X) → Step (core_of o) e d → ⊥)
  refuses s o same e nothing = (same, subst (λ u. (d : Core X) → Step (core_of u) e d → ⊥) same nothing)

  -- no lane is there
  pub missing : (s : StateView X) (l : ℕ) → length s.lanes ≤ l → (core_of s).lane l ≡ Idle
  missing s l h = get_or_past s.lanes l Idle h

  -- the name at the place of the key in a lane's hand
  pub named : (s : StateView X) (l place : ℕ) (x : X) → IsSound (core_of s) → place_in_hand ((core_of s).lane l) ≡ Some place → x ≡ get_or s.log place x
      → (v : Lane X) → (core_of s).lane l ≡ v → (p : ℕ) → place_in_hand v ≡ Some p → slice_get s.log p ≡ Some x
  named s l place x sound held is v e p here = let same = same_Some place p (sym held ∙ ap place_in_hand e ∙ here) in
      let inside = held_within s.log s.closed ((core_of s).lane l) (sound.lane l) place held in
      subst (λ k. slice_get s.log k ≡ Some x) same (slice_get-get_or s.log place x inside ∙ ap Some (sym is))

  pub applied_maybe : {E : Type 0} (s o : StateView X) → s ≡ o → (e : event.Event X) (l : ℕ) (row : Lane X → Option (Lane X)) (old new : Lane X) (made : Result Bool E) → IsSound (core_of s) → l < length s.lanes → old ≡ get_or s.lanes l old
      → ((v : Lane X) → (core_of s).lane l ≡ v → Decides (core_of s) e l (row v)) → IfOk made (Becomes (row old) old new) → OnErr made (new ≡ old)
      → IfOk made (Applies o e (with_lane s l new)) × IsSound (core_of (with_lane s l new))
  applied_maybe s o same e l row old new (Ok made) sound inside is decide becomes stays = applied s o same e l row old new made sound inside is decide becomes
  applied_maybe s o same e l row old new (Err f) sound inside is decide becomes stays =
      let unchanged : with_lane s l new ≡ s = ap (λ lanes. record s { lanes = lanes }) (ap (λ v. slice_set s.lanes l v) (stays ∙ is) ∙ set-get_or s.lanes l old) in
      (tt, subst (λ t. IsSound (core_of t)) (sym unchanged) sound)

  -- what holds of the record of each lane of a list holds of every lane
  every : (P : LaneRecord → Type 0) (lanes : List (Lane X)) → ((k : ℕ) (d : Lane X) → k < length lanes → (m : LaneRecord) → record_of (get_or lanes k d) ≡ Some m → P m)
      → (l : ℕ) (m : LaneRecord) → record_of (get_or lanes l Idle) ≡ Some m → P m
  every P lanes all l m is = elim (cases_lt l (length lanes)) [
    | inl h ↦ all l Idle h m is
    | inr h ↦ absurd (none-some m (sym (ap record_of (get_or_past lanes l Idle h)) ∙ is))
  ]

  pub room : (s : StateView X) → AllPass (leaves_room s.places (length s.log)) s.lanes → MayGrow (core_of s)
  room s all = every (λ m. m.cut ≡ false → length s.log - m.known < s.places) s.lanes (λ k d h m is. lane_room_tells s.places (length s.log) (get_or s.lanes k d) (all k d h) m is)

  pub from_room : (s : StateView X) → MayGrow (core_of s) → AllPass (leaves_room s.places (length s.log)) s.lanes
  from_room s has k d h = lane_room_from s.places (length s.log) (get_or s.lanes k d) (λ m is. has k m (ap record_of (get_or_default s.lanes k Idle d h) ∙ is))

  pub all_gone_freed : (s : StateView X) (i : ℕ) → i < length s.log → AllPass (keeps_none i) s.lanes → IsFreed (core_of s) i
  all_gone_freed s i inside all = (inside, every (λ m. KeepsKey m i → ⊥) s.lanes (λ k d h m is. keeps_none_tells i (get_or s.lanes k d) (all k d h) m is))

  pub freed_all_gone : (s : StateView X) (i : ℕ) → IsFreed (core_of s) i → AllPass (keeps_none i) s.lanes
  freed_all_gone s i f k d h = keeps_none_from i (get_or s.lanes k d) (λ m is. f.1 k m (ap record_of (get_or_default s.lanes k Idle d h) ∙ is))

  pub no_poster : (c : Core X) (p : ℕ) (post : Option (ℕ × X)) → c.posters ≤ p → (d : Core X) → Step c (does.Note p post) d → ⊥
  no_poster c p post h d step = let u = (of_note c p post d step).0 in omega arith

  abbrev pub with_poster : StateView X → ℕ → Poster X → StateView X
  with_poster s p v = record s { posters = slice_set s.posters p v }

  only_poster_set : (s : StateView X) (p : ℕ) (v : Poster X) → p < length s.posters → OnlyPoster (core_of s) p v (core_of (with_poster s p v))
  only_poster_set s p v h = record {
    same = record { places = refl; log = refl; closed = refl; lanes = refl; posters = length-set s.posters p v };
    lane = λ l. refl;
    here = get_or-set_same s.posters p v unaware_poster h;
    other = λ q ne. get_or-set_other s.posters p q v unaware_poster ne;
  }

  noted : (s : StateView X) (p : ℕ) (post : Option (ℕ × X)) (old new : Poster X) (made : Bool) → IsSound (core_of s) → p < length s.posters → old ≡ get_or s.posters p old → DoesNote s.log post old new made
      → Applies s (does.Note p post) (with_poster s p new) made × IsSound (core_of (with_poster s p new))
  noted s p post old new true sound inside is h =
      let at : get_or s.posters p unaware_poster ≡ old = get_or_default s.posters p unaware_poster old inside ∙ sym is in
      let step : Step (core_of s) (does.Note p post) (core_of (with_poster s p new)) = note (core_of s) (core_of (with_poster s p new)) p post inside (subst (λ v. MayOwn s.log v post) (sym at) h.0)
      (subst (λ v. OnlyPoster (core_of s) p v (core_of (with_poster s p new))) (h.1 ∙ ap (λ v. record { places_known = length s.log; own = with_own v.own post }) (sym at)) (only_poster_set s p new inside)) in
      (step, keeps_sound (core_of s) (core_of (with_poster s p new)) (does.Note p post) sound step)
  noted s p post old new false sound inside is h =
      let at : get_or s.posters p unaware_poster ≡ old = get_or_default s.posters p unaware_poster old inside ∙ sym is in
      let same : with_poster s p new ≡ s = ap (λ posters. record s { posters = posters }) (ap (λ v. slice_set s.posters p v) (h.1 ∙ is) ∙ set-get_or s.posters p old) in
      ((same, λ d step. h.0 (subst (λ v. MayOwn s.log v post) at (of_note (core_of s) p post d step).1)), subst (λ t. IsSound (core_of t)) (sym same) sound)

  pub noted_maybe : {E : Type 0} (s o : StateView X) → s ≡ o → (p : ℕ) (post : Option (ℕ × X)) (old new : Poster X) (made : Result Bool E) → IsSound (core_of s) → p < length s.posters → old ≡ get_or s.posters p old
      → IfOk made (DoesNote s.log post old new) → OnErr made (new ≡ old) → IfOk made (Applies o (does.Note p post) (with_poster s p new)) × IsSound (core_of (with_poster s p new))
  noted_maybe s o same p post old new (Ok made) sound inside is h stays = let n = noted s p post old new made sound inside is h in (subst (λ u. Applies u (does.Note p post) (with_poster s p new) made) same n.0, n.1)
  noted_maybe s o same p post old new (Err f) sound inside is h stays =
      let unchanged : with_poster s p new ≡ s = ap (λ posters. record s { posters = posters }) (ap (λ v. slice_set s.posters p v) (stays ∙ is) ∙ set-get_or s.posters p old) in (tt, subst (λ t. IsSound (core_of t)) (sym unchanged) sound)

  pub no_room : (s o : StateView X) → s ≡ o → (x : X) → (MayGrow (core_of s) → ⊥) → (d : Core X) → Step (core_of o) (does.Publish x) d → ⊥
  no_room s o same x nothing d step = nothing (of_publish (core_of s) x d (subst (λ u. Step (core_of u) (does.Publish x) d) (sym same) step)).1

  -- the log with one name more
  abbrev pub longer_by : StateView X → X → StateView X
  longer_by s x = record s { log = s.log ++ x ∷ [] }

  pub publishes : (s o : StateView X) → s ≡ o → (x : X) (log : List X) → IsSound (core_of s) → s.closed ≡ false → MayGrow (core_of s) → log ≡ s.log ++ x ∷ []
      → Step (core_of o) (does.Publish x) (core_of (record s { log = log })) × IsSound (core_of (record s { log = log }))
  publishes s o same x log sound fine room is =
      let t : StateView X = record s { log = log } in
      let step : Step (core_of s) (does.Publish x) (core_of t) = publish (core_of s) (core_of t) x fine room
      (record { places = refl; log = is; closed = fine; lanes = refl; posters = refl; lane = λ l. refl; poster = λ p. refl }) in
      (subst (λ u. Step (core_of u) (does.Publish x) (core_of t)) same step, keeps_sound (core_of s) (core_of t) (does.Publish x) sound step)

  pub publish_possible : {A E : Type 0} (s o : StateView X) → s ≡ o → (x : X) (made : Result A E) → IsSound (core_of s) → s.closed ≡ false → MayGrow (core_of s)
      → OnErr made (IsPossible (core_of o) (does.Publish x))
  publish_possible s o same x (Ok made) sound fine has = tt
  publish_possible s o same x (Err f) sound fine has = (core_of (longer_by s x), (publishes s o same x (s.log ++ x ∷ []) sound fine has refl).0)

  -- a cursor with a key in its hand can pass
  hand_passes : (x : X) (v : Lane X) (place : ℕ) → place_in_hand v ≡ Some place → (w : Lane X) × (after_pass x v ≡ Some w)
  hand_passes x Idle place is = absurd (none-some place is)
  hand_passes x (Admitted m) place is = absurd (none-some place is)
  hand_passes x (Open m r) place is =
      let passed : Lane X = Open m (record r { passed = r.passed + 1; held = false; told_cut = r.told_cut || m.cut; got = r.got ++ x ∷ [] }) in
      (passed, ap (λ b. cond b (Some passed) None) (held_is r r.held refl place is).0)
  hand_passes x (Left m) place is = absurd (none-some place is)

  pub pass_possible : {E : Type 0} (s o : StateView X) → s ≡ o → (l place : ℕ) (x : X) (made : Result Bool E) → IsSound (core_of s) → l < length s.lanes
      → place_in_hand ((core_of s).lane l) ≡ Some place → x ≡ get_or s.log place x → OnErr made (IsPossible (core_of o) (does.Pass l))
  pass_possible s o same l place x (Ok made) sound inside held is = tt
  pass_possible s o same l place x (Err f) sound inside held is =
      let c = core_of s in let v = c.lane l in let w = hand_passes x v place held in
      let decided : Decides c (does.Pass l) l (after_pass x v) = decide_pass c l x v (named s l place x sound held is v refl) refl in
      let steps : (d : Core X) → OnlyLane c l w.0 d → Step c (does.Pass l) d = MatchOption-at_some ((d : Core X) → Step c (does.Pass l) d → ⊥) (λ v. (d : Core X) → OnlyLane c l v d → Step c (does.Pass l) d) w.0 w.1 decided in
      subst (λ u. IsPossible (core_of u) (does.Pass l)) same (core_of (with_lane s l w.0), steps (core_of (with_lane s l w.0)) (only_lane_set s l w.0 inside))

  pub note_possible : {E : Type 0} (s o : StateView X) → s ≡ o → (p : ℕ) (post : Option (ℕ × X)) (old : Poster X) (made : Result Bool E) → p < length s.posters → old ≡ get_or s.posters p old
      → OnErr made (IsSome post × MayOwn s.log old post) → OnErr made (IsPossible (core_of o) (does.Note p post))
  note_possible s o same p post old (Ok made) inside is may = tt
  note_possible s o same p post old (Err f) inside is may =
      let c = core_of s in let noted : Poster X = record { places_known = length s.log; own = with_own (c.poster p).own post } in
      let at : old ≡ c.poster p = is ∙ get_or_default s.posters p old unaware_poster inside in
      subst (λ u. IsPossible (core_of u) (does.Note p post)) same
      (core_of (with_poster s p noted), note c (core_of (with_poster s p noted)) p post inside (subst (λ v. MayOwn s.log v post) at may.1) (only_poster_set s p noted inside))
