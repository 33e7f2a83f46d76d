-- A seat's Note is a Note of its poster for each place that became its own since the last, or one for none.
use Rattle.std.proofs.Common.{◌≡◌, ◌≢◌, ℕ, zero, suc, ◌<◌, List, [], ◌∷◌, ◌++◌, length, map, take, drop, set, get_or, sym, refl, ap, ◌∙◌, subst, arith, Some, None, append_assoc}
use Rattle.std.specs.List.{Contains}
use mathlib.Core.Option as maybe
use mathlib.Core.Option.{none, some}
use lib.ListN.{get_elem?}
use Rattle.atomic_table.specs.Table.{step}
use Rattle.atomic_table.proofs.Lists.{set_here, set_else}
use Rattle.am_steps.specs.declared.poster.Poster.{Poster}
use Rattle.am_steps.specs.declared.event.Event.TheVariants as does
use Rattle.am_steps.specs.States.{Core}
use Rattle.am_steps.specs.Steps as steps
use Rattle.am_steps.specs.Steps.{Step, MayOwn, OnlyPoster}
use Rattle.am_steps.specs.Runs.{LeadsTo, then as leads}
use Rattle.am_steps.specs.Runs as runs
use Rattle.am_cast.specs.declared.views.Tail.{Tail}
use Rattle.am_cast.specs.declared.views.Account.{Account}
use Rattle.am_cast.specs.declared.views.LaneView.{LaneView}
use Rattle.am_cast.specs.declared.views.Own.{Own}
use Rattle.am_cast.specs.declared.views.View.{View}
use Rattle.am_cast.specs.Rule.{IsApart, Once}
use Rattle.am_cast.specs.Core.{post_of, poster_of, poster_behind, view_or_blank, core_behind, note_posts, note_events, AllowsNote}
use Rattle.am_cast.specs.Steps.{SeatState, Notes}
use Rattle.am_cast.proofs.Slots.{put, put_here, put_else, at_length}
use Rattle.am_cast.proofs.Ties.{get_at}
use Rattle.am_cast.proofs.steps.Note.{notes}

module _ {B : Type 0} where
  posts_end : (xs : List (Own B)) (o : Own B) → map post_of (xs ++ o ∷ []) ≡ map post_of xs ++ post_of o ∷ []
  posts_end [] o = refl
  posts_end (x ∷ xs) o = ap (λ (ys : List (ℕ × B)). post_of x ∷ ys) (posts_end xs o)

  nothing_more : (xs : List (Own B)) → xs ++ [] ≡ xs
  nothing_more [] = refl
  nothing_more (x ∷ xs) = ap (λ (ys : List (Own B)). x ∷ ys) (nothing_more xs)

  parts : (n : ℕ) (xs : List (Own B)) → xs ≡ take n xs ++ drop n xs
  parts zero xs = refl
  parts (suc n) [] = refl
  parts (suc n) (x ∷ xs) = ap (λ (ys : List (Own B)). x ∷ ys) (parts n xs)

  all_of : (xs : List (Own B)) → take (length xs) xs ≡ xs
  all_of [] = refl
  all_of (x ∷ xs) = ap (λ (ys : List (Own B)). x ∷ ys) (all_of xs)

  middle : (xs : List (Own B)) (o : Own B) (ys : List (Own B)) → get_elem? (xs ++ o ∷ ys) (length xs) ≡ some o
  middle [] o ys = refl
  middle (x ∷ xs) o ys = middle xs o ys

  apart_from : (p : ℕ) (xs : List (Own B)) (o : Own B) (ys : List (Own B)) → IsApart p (xs ++ o ∷ ys) → o.place ≢ p
  apart_from p [] o ys h = h.0
  apart_from p (x ∷ xs) o ys h = apart_from p xs o ys h.1

  -- a place that stands further on is none of the first ones
  not_before : (xs : List (Own B)) (o : Own B) (ys : List (Own B)) → Once (xs ++ o ∷ ys) → (k : ℕ) → k < length (map post_of xs) → get_or (map post_of xs) k (post_of o) ≡ post_of o → ⊥
  not_before [] o ys once k small e = absurd (omega arith)
  not_before (x ∷ xs) o ys once zero small e = apart_from x.place xs o ys once.0 (sym (ap (λ (p : ℕ × B). p.0) e))
  not_before (x ∷ xs) o ys once (suc k) small e = not_before xs o ys once.1 k (omega arith) e

module _ {B K A : Type 0} (posters : ℕ) (t : Tail B) (account : ℕ → Account K A) (lane : ℕ → LaneView B A) where
  abbrev core_with : (ℕ → Poster B) → Core B
  core_with posts = core_behind posters posts t account lane

  pub same_posters : (P Q : ℕ → Poster B) → ((k : ℕ) → Q k ≡ P k) → LeadsTo (core_with P) [] (core_with Q)
  same_posters P Q e = let now : core_with P ≡ core_with Q = (λ i. core_with (λ k. sym (e k) i)) in subst (LeadsTo (core_with P) []) now (runs.none (core_with P))

  only_poster : (P Q : ℕ → Poster B) (p : ℕ) (v : Poster B) → Q p ≡ v → ((k : ℕ) → k ≢ p → Q k ≡ P k) → OnlyPoster (core_with P) p v (core_with Q)
  only_poster P Q p v here other = grind arith

  posts_lead : (P Q : ℕ → Poster B) (p known : ℕ) (own os : List (Own B)) → p < posters → ((k : ℕ) (o : Own B) → get_elem? (own ++ os) k ≡ some o → get_elem? t.log o.place ≡ some o.batch) → Once (own ++ os)
      → P p ≡ poster_of known own → Q p ≡ poster_of (length t.log) (own ++ os) → ((k : ℕ) → k ≢ p → Q k ≡ P k) → (os ≡ [] → known ≡ length t.log) → LeadsTo (core_with P) (note_posts p os) (core_with Q)
  posts_lead P Q p known own [] inside stand once was now other full = grind (arith, same_posters, nothing_more)
  posts_lead P Q p known own (o ∷ os) inside stand once was now other full =
      let next : Poster B = poster_of (length t.log) (own ++ o ∷ []) in let P' : ℕ → Poster B = put P p next in
      let own_is : (P p).own ≡ map post_of own = ap (λ (v : Poster B). v.own) was in
      let may : MayOwn t.log (P p) (Some (post_of o)) = (get_at t.log o.place o.batch (stand (length own) o (middle own o os)), subst (λ (posts : List (ℕ × B)). Contains posts (post_of o) → ⊥) (sym own_is) (λ c. not_before own o os once c.0 c.1 c.2)) in
      let first : Step (core_with P) (does.Note p (Some (post_of o))) (core_with P') = steps.note (core_with P) (core_with P') p (Some (post_of o)) inside may
      (grind (arith, only_poster, put_here, posts_end, put_else)) in
      let moved : (own ++ o ∷ []) ++ os ≡ own ++ o ∷ os = append_assoc own (o ∷ []) os in
      leads (core_with P) (core_with P') (core_with Q) (does.Note p (Some (post_of o))) (note_posts p os) first
      (posts_lead P' Q p (length t.log) (own ++ o ∷ []) os inside (λ k y e. stand k y (ap (λ (ys : List (Own B)). get_elem? ys k) (sym moved) ∙ e)) (subst (λ (ys : List (Own B)). Once ys) (sym moved) once) (put_here P p next) (now ∙ ap (poster_of (length t.log)) (sym moved)) (λ k ne. other k ne ∙ sym (put_else P p next k ne)) (λ _. refl))

  notes_lead : (P Q : ℕ → Poster B) (p known : ℕ) (own os : List (Own B)) → p < posters → ((k : ℕ) (o : Own B) → get_elem? (own ++ os) k ≡ some o → get_elem? t.log o.place ≡ some o.batch) → Once (own ++ os)
      → P p ≡ poster_of known own → Q p ≡ poster_of (length t.log) (own ++ os) → ((k : ℕ) → k ≢ p → Q k ≡ P k) → LeadsTo (core_with P) (note_events p os) (core_with Q)
  notes_lead P Q p known own [] inside stand once was now other =
      leads (core_with P) (core_with Q) (core_with Q) (does.Note p None) [] (steps.note (core_with P) (core_with Q) p None inside tt (grind (arith, only_poster, nothing_more))) (runs.none (core_with Q))
  notes_lead P Q p known own (o ∷ os) inside stand once was now other = posts_lead P Q p known own (o ∷ os) inside stand once was now other (λ e. absurd (cons_nil e))
    where
      cons_nil : {o : Own B} {os : List (Own B)} → o ∷ os ≡ [] → ⊥
      cons_nil e = let h = ap (λ (ys : List (Own B)). length ys) e in omega arith

module _ {B K A : Type 0} (key : B → ℕ → K) where
  pub notes_as : (slots id : ℕ) (me : SeatState B K A) → AllowsNote key slots id me (Notes (step slots 0 0 0 none) me)
  unfolding notes
  notes_as slots id me s r deep at fits =
      let x = notes key slots id me s r deep at fits in let w : View B K A = x.0 in let t : Tail B = r.tail in let mine = r.each_seat id me.0 at in
      let P : (ℕ → ℕ) → ℕ → Poster B = λ seat_of k. poster_behind (view_or_blank (get_elem? s.views (seat_of k))) in
      let Q : (ℕ → ℕ) → ℕ → Poster B = λ seat_of k. poster_behind (view_or_blank (get_elem? (set s.views id w) (seat_of k))) in
      let same : (seat_of : ℕ → ℕ) (k : ℕ) → seat_of k ≢ id → Q seat_of k ≡ P seat_of k = λ seat_of k ne. ap (λ (o : maybe.Option (View B K A)). poster_behind (view_or_blank o)) (set_else s.views id (seat_of k) w ne) in
      let before : List (Own B) = take me.0.counted me.0.own in let new : List (Own B) = drop me.0.counted me.0.own in
      let all : before ++ new ≡ me.0.own = sym (parts me.0.counted me.0.own) in (
        w,
        x.1,
        x.2,
        (
          x.3,
          (λ posters seat_of p inside is others. notes_lead posters t r.account r.lane (P seat_of) (Q seat_of) p (length me.0.noted) before new inside
              (λ k o e. (mine.owns.each k o (ap (λ (ys : List (Own B)). get_elem? ys k) (sym all) ∙ e)).0)
              (subst (λ (ys : List (Own B)). Once ys) (sym all) mine.owns.once)
              (grind arith)
              (grind (arith, set_here, at_length, all_of))
              (λ k ne. same seat_of k (others k ne))),
          grind (arith, same_posters),
        ),
        x.4,
      )
