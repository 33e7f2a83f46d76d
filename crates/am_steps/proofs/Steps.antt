-- What a step tells of the states before and after it.
use Rattle.std.proofs.Common.{◌≡◌, ℕ, ◌+◌, ◌<◌, inl, inr, Bool, true, false, cond, ◌||◌, List, [], ◌∷◌, ◌++◌, length, slice_get, Option, Some, MatchOption, refl, sym, ap, ◌∙◌, subst}
use Rattle.std.specs.Prelude.{⊤}
use Rattle.std.proofs.lemmas.Bool.{false≢true, cases_eq}
use Rattle.std.proofs.lemmas.Option.{same_Some}
use Rattle.am_steps.specs.declared.lane_record.LaneRecord.{LaneRecord}
use Rattle.am_steps.specs.declared.cursor.Cursor.{Cursor}
use Rattle.am_steps.specs.declared.lane.Lane.{Lane}
use Rattle.am_steps.specs.declared.lane.Lane.TheVariants.{Idle, Admitted, Open, Left}
use Rattle.am_steps.specs.declared.poster.Poster.{Poster}
use Rattle.am_steps.specs.declared.event.Event as event
use Rattle.am_steps.specs.declared.event.Event.TheVariants as does
use Rattle.am_steps.specs.States.{Core, LaneWord, record_of, with_record, word_of, new_record, new_cursor}
use Rattle.am_steps.specs.Steps.{SameLog, OnlyLane, OnlyLog, OnlyPoster, MayGrow, MayOwn, with_own, Step, publish, close, harvest, admit, opens, look, take as takes, pass, cut, leave, retire, note}
use Rattle.am_steps.specs.Laws.{SameState}
use Rattle.am_steps.proofs.Common.{of_some}
use Rattle.am_steps.proofs.States.{admitted_record, same_parts}

-- what a step of each kind tells: that it was possible, and what changed
module _ {X : Type 0} (c : Core X) where
  pub of_publish : (x : X) (d : Core X) → Step c (does.Publish x) d → (c.closed ≡ false) × MayGrow c × OnlyLog c (c.log ++ x ∷ []) false d
  of_publish x _ (publish _ d _ fine room g) = (fine, room, g)

  pub of_close : (d : Core X) → Step c does.Close d → (c.closed ≡ false) × OnlyLog c c.log true d
  of_close _ (close _ d fine g) = (fine, g)

  pub of_harvest : (l : ℕ) (d : Core X) → Step c (does.Harvest l) d → (m : LaneRecord) × (w : LaneWord) × (record_of (c.lane l) ≡ Some m) × (word_of (c.lane l) ≡ Some w)
      × OnlyLane c l (with_record (record m { known = w.passed; key_out = w.held }) (c.lane l)) d
  of_harvest l _ (harvest _ d _ m w is word t) = (m, w, is, word, t)

  pub of_admit : (l : ℕ) (d : Core X) → Step c (does.Admit l) d → (l < c.lanes) × (c.lane l ≡ Idle) × (c.closed ≡ false) × OnlyLane c l (Admitted (new_record (length c.log))) d
  of_admit l _ (admit _ d _ inside idle fine t) = (inside, idle, fine, t)

  pub of_open : (l : ℕ) (d : Core X) → Step c (does.Open l) d → (m : LaneRecord) × (c.lane l ≡ Admitted m) × OnlyLane c l (Open m (new_cursor m.start)) d
  of_open l _ (opens _ d _ m is t) = (m, is, t)

  pub of_look : (l : ℕ) (d : Core X) → Step c (does.Look l) d → (m : LaneRecord) × (r : Cursor X) × (c.lane l ≡ Open m r)
      × OnlyLane c l (Open m (record r { seen = length c.log; told = c.closed })) d
  of_look l _ (look _ d _ m r is t) = (m, r, is, t)

  pub of_take : (l : ℕ) (d : Core X) → Step c (does.Take l) d → (m : LaneRecord) × (r : Cursor X) × (c.lane l ≡ Open m r) × (r.held ≡ false) × (r.passed < r.seen)
      × OnlyLane c l (Open m (cond m.cut (record r { told_cut = true }) (record r { held = true }))) d
  of_take l _ (takes _ d _ m r is free some t) = (m, r, is, free, some, t)

  pub of_pass : (l : ℕ) (d : Core X) → Step c (does.Pass l) d → (m : LaneRecord) × (r : Cursor X) × (x : X) × (c.lane l ≡ Open m r) × (r.held ≡ true) × (slice_get c.log r.passed ≡ Some x)
      × OnlyLane c l (Open m (record r { passed = r.passed + 1; held = false; told_cut = r.told_cut || m.cut; got = r.got ++ x ∷ [] })) d
  of_pass l _ (pass _ d _ m r x is held name t) = (m, r, x, is, held, name, t)

  pub of_cut : (l : ℕ) (d : Core X) → Step c (does.Cut l) d → (m : LaneRecord) × (record_of (c.lane l) ≡ Some m) × (word_of (c.lane l) ≡ Some (record { passed = m.known; held = m.key_out }))
      × (m.cut ≡ false) × (m.known + c.places ≡ length c.log) × OnlyLane c l (with_record (record m { cut = true }) (c.lane l)) d
  of_cut l _ (cut _ d _ m is word uncut far t) = (m, is, word, uncut, far, t)

  pub of_leave : (l : ℕ) (d : Core X) → Step c (does.Leave l) d → (m : LaneRecord) × (r : Cursor X) × (c.lane l ≡ Open m r) × OnlyLane c l (Left m) d
  of_leave l _ (leave _ d _ m r is t) = (m, r, is, t)

  pub of_retire : (l : ℕ) (d : Core X) → Step c (does.Retire l) d → (m : LaneRecord) × (c.lane l ≡ Left m) × OnlyLane c l Idle d
  of_retire l _ (retire _ d _ m is t) = (m, is, t)

  pub of_note : (p : ℕ) (post : Option (ℕ × X)) (d : Core X) → Step c (does.Note p post) d → (p < c.posters) × MayOwn c.log (c.poster p) post
      × OnlyPoster c p (record { places_known = length c.log; own = with_own (c.poster p).own post }) d
  of_note p post _ (note _ d _ _ inside may n) = (inside, may, n)

-- two states that one step leads to
module _ {X : Type 0} (c d f : Core X) where
  turns : (l : ℕ) (v w : Lane X) → OnlyLane c l v d → OnlyLane c l w f → v ≡ w → SameState d f
  turns l v w t u e = record {
    places = u.same.places ∙ sym t.same.places;
    log = u.same.log ∙ sym t.same.log;
    closed = u.same.closed ∙ sym t.same.closed;
    lanes = u.same.lanes ∙ sym t.same.lanes;
    posters = u.same.posters ∙ sym t.same.posters;
    lane = λ k. elim (cases_eq k l) [
      | inl is ↦ subst (λ i. f.lane i ≡ d.lane i) (sym is) (u.here ∙ sym e ∙ sym t.here)
      | inr ne ↦ u.other k ne ∙ sym (t.other k ne)
    ];
    poster = λ p. u.poster p ∙ sym (t.poster p);
  }

  grows : (names : List X) (ended : Bool) → OnlyLog c names ended d → OnlyLog c names ended f → SameState d f
  grows names ended t u = record {
    places = u.places ∙ sym t.places;
    log = u.log ∙ sym t.log;
    closed = u.closed ∙ sym t.closed;
    lanes = u.lanes ∙ sym t.lanes;
    posters = u.posters ∙ sym t.posters;
    lane = λ l. u.lane l ∙ sym (t.lane l);
    poster = λ p. u.poster p ∙ sym (t.poster p);
  }

  notes : (p : ℕ) (v : Poster X) → OnlyPoster c p v d → OnlyPoster c p v f → SameState d f
  notes p v t u = record {
    places = u.same.places ∙ sym t.same.places;
    log = u.same.log ∙ sym t.same.log;
    closed = u.same.closed ∙ sym t.same.closed;
    lanes = u.same.lanes ∙ sym t.same.lanes;
    posters = u.same.posters ∙ sym t.same.posters;
    lane = λ l. u.lane l ∙ sym (t.lane l);
    poster = λ q. elim (cases_eq q p) [
      | inl is ↦ subst (λ i. f.poster i ≡ d.poster i) (sym is) (u.here ∙ sym t.here)
      | inr ne ↦ u.other q ne ∙ sym (t.other q ne)
    ];
  }

pub one_next : {X : Type 0} (c d f : Core X) (e : event.Event X) → Step c e d → Step c e f → SameState d f
one_next _ _ f _ (publish c d x fine room g) s = grows c d f _ _ g (of_publish c x f s).2
one_next _ _ f _ (close c d fine g) s = grows c d f _ _ g (of_close c f s).1
one_next _ _ f _ (harvest c d l m w is word t) s = let u = of_harvest c l f s in let a = same_Some m u.0 (sym is ∙ u.2) in let b = same_Some w u.1 (sym word ∙ u.3) in
    turns c d f l _ _ t u.4 (λ i. with_record (record (a i) { known = (b i).passed; key_out = (b i).held }) (c.lane l))
one_next _ _ f _ (admit c d l inside idle fine t) s = turns c d f l _ _ t (of_admit c l f s).3 refl
one_next _ _ f _ (opens c d l m is t) s = let u = of_open c l f s in let a = same_Some m u.0 (ap admitted_record (sym is ∙ u.1)) in
    turns c d f l _ _ t u.2 (λ i. Open (a i) (record { passed = (a i).start; held = false; seen = (a i).start; told = false; told_cut = false; got = [] }))
one_next _ _ f _ (look c d l m r is t) s = let u = of_look c l f s in let a = same_parts (c.lane l) m u.0 r u.1 is u.2 in
    turns c d f l _ _ t u.3 (λ i. Open ((a i).0) (record ((a i).1) { seen = length c.log; told = c.closed }))
one_next _ _ f _ (takes c d l m r is free some t) s = let u = of_take c l f s in let a = same_parts (c.lane l) m u.0 r u.1 is u.2 in
    turns c d f l _ _ t u.5 (λ i. Open ((a i).0) (cond ((a i).0.cut) (record ((a i).1) { told_cut = true }) (record ((a i).1) { held = true })))
one_next _ _ f _ (pass c d l m r x is held name t) s = let u = of_pass c l f s in let a = same_parts (c.lane l) m u.0 r u.1 is u.3 in
    let b = same_Some x u.2 (sym name ∙ ap (λ (p : LaneRecord × Cursor _). slice_get c.log p.1.passed) a ∙ u.5) in
    turns c d f l _ _ t u.6 (λ i. Open ((a i).0) (record ((a i).1) { passed = (a i).1.passed + 1; held = false; told_cut = (a i).1.told_cut || (a i).0.cut; got = (a i).1.got ++ b i ∷ [] }))
one_next _ _ f _ (cut c d l m is word uncut far t) s = let u = of_cut c l f s in let a = same_Some m u.0 (sym is ∙ u.1) in turns c d f l _ _ t u.5 (λ i. with_record (record (a i) { cut = true }) (c.lane l))
one_next _ _ f _ (leave c d l m r is t) s = let u = of_leave c l f s in let a = same_parts (c.lane l) m u.0 r u.1 is u.2 in turns c d f l _ _ t u.3 (λ i. Left ((a i).0))
one_next _ _ f _ (retire c d l m is t) s = turns c d f l _ _ t (of_retire c l f s).2 refl
one_next _ _ f _ (note c d p post inside may n) s = notes c d f p _ n (of_note c p post f s).2

module _ {X : Type 0} where
  closed_same : (c d : Core X) → SameLog c d → c.closed ≡ true → (d.closed ≡ true) × (d.log ≡ c.log)
  closed_same c d same e = (same.closed ∙ e, same.log)

  -- a closed log stays closed, and as long as it is
  pub closed_step : (c d : Core X) (e : event.Event X) → c.closed ≡ true → Step c e d → (d.closed ≡ true) × (d.log ≡ c.log)
  closed_step _ _ _ e (publish c d x fine room g) = absurd (false≢true (sym fine ∙ e))
  closed_step _ _ _ e (close c d fine g) = absurd (false≢true (sym fine ∙ e))
  closed_step _ _ _ e (harvest c d l m w is word t) = closed_same c d t.same e
  closed_step _ _ _ e (admit c d l inside idle fine t) = closed_same c d t.same e
  closed_step _ _ _ e (opens c d l m is t) = closed_same c d t.same e
  closed_step _ _ _ e (look c d l m r is t) = closed_same c d t.same e
  closed_step _ _ _ e (takes c d l m r is free some t) = closed_same c d t.same e
  closed_step _ _ _ e (pass c d l m r x is held name t) = closed_same c d t.same e
  closed_step _ _ _ e (cut c d l m is word uncut far t) = closed_same c d t.same e
  closed_step _ _ _ e (leave c d l m r is t) = closed_same c d t.same e
  closed_step _ _ _ e (retire c d l m is t) = closed_same c d t.same e
  closed_step _ _ _ e (note c d p post inside may n) = closed_same c d n.same e

  pub places_step : (c d : Core X) (e : event.Event X) → Step c e d → d.places ≡ c.places
  places_step _ _ _ (publish c d x fine room g) = g.places
  places_step _ _ _ (close c d fine g) = g.places
  places_step _ _ _ (harvest c d l m w is word t) = t.same.places
  places_step _ _ _ (admit c d l inside idle fine t) = t.same.places
  places_step _ _ _ (opens c d l m is t) = t.same.places
  places_step _ _ _ (look c d l m r is t) = t.same.places
  places_step _ _ _ (takes c d l m r is free some t) = t.same.places
  places_step _ _ _ (pass c d l m r x is held name t) = t.same.places
  places_step _ _ _ (cut c d l m is word uncut far t) = t.same.places
  places_step _ _ _ (leave c d l m r is t) = t.same.places
  places_step _ _ _ (retire c d l m is t) = t.same.places
  places_step _ _ _ (note c d p post inside may n) = n.same.places

  -- what holds of every lane's record
  abbrev pub EachRecord : (LaneRecord → Type 0) → Core X → Type 0
  EachRecord P c = (l : ℕ) (m : LaneRecord) → record_of (c.lane l) ≡ Some m → P m

  pub each_record_lane : (P : LaneRecord → Type 0) (c d : Core X) (l : ℕ) (v : Lane X) → OnlyLane c l v d → EachRecord P c → MatchOption (record_of v) ⊤ P → EachRecord P d
  each_record_lane P c d l v t all new k m = elim (cases_eq k l) [
    | inl e ↦ (λ is. of_some (record_of v) P new m (ap record_of (sym t.here) ∙ ap (λ i. record_of (d.lane i)) (sym e) ∙ is))
    | inr ne ↦ (λ is. all k m (ap record_of (sym (t.other k ne)) ∙ is))
  ]

  pub each_record_same : (P : LaneRecord → Type 0) (c d : Core X) → ((l : ℕ) → d.lane l ≡ c.lane l) → EachRecord P c → EachRecord P d
  each_record_same P c d same all l m is = all l m (ap record_of (sym (same l)) ∙ is)

  pub holds_with_record : (P : LaneRecord → Type 0) (v : Lane X) (n : LaneRecord) → P n → MatchOption (record_of (with_record n v)) ⊤ P
  holds_with_record P Idle n p = tt
  holds_with_record P (Admitted m) n p = p
  holds_with_record P (Open m r) n p = p
  holds_with_record P (Left m) n p = p
