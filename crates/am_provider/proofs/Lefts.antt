-- How the subscriptions that were given back follow from a journal as it grows and is trimmed.
use Rattle.std.proofs.Common.{◌≡◌, ℕ, zero, suc, ◌+◌, ◌-◌, ◌<◌, ◌≤◌, ◌⊎◌, inl, inr, Bool, true, cond, nat_eq, nat_le, List, [], ◌∷◌, ◌++◌, drop, map, filter, Option, None, Some, slice_get, refl, sym, ap, subst, ◌∙◌, arith}
use Rattle.std.specs.List.{count_by}
use Rattle.std.proofs.lemmas.List.{append_assoc, append-nil}
use Rattle.std.proofs.lemmas.List.Elements.{filter-append, All-drop}
use Rattle.std.proofs.lemmas.Bool.Decides.{eqb_tells}
use borrow.Author.Tests.{le-leb, lt-leb}
use Rattle.am_store.specs.declared.call.Call.{Call}
use Rattle.am_store.specs.declared.call.Call.TheVariants.{Posted, Collected, Subscribed, Left, Closed}
use Rattle.am_provider.specs.declared.answers.Ended.{Ended}
use Rattle.am_store.specs.Trims.{IsTrimmed}
use Rattle.am_store.specs.Journal.{JournalView, with_call, since, is_left, lefts_of, open_after, IsKept, IsOpenSubscription, IsLegal}
use Rattle.am_store.proofs.Stored.{by_bool}
use Rattle.am_store.proofs.Journals.{drop_twice, lefts_last}
use Rattle.am_store.proofs.Opens.{nat_eq_refl, one_open}
use Rattle.am_provider.specs.Lefts.{came_after, at_of, left_by, left_from, left_ats}

-- when the subscription of each lane came, after some calls
unfoldable pub came_from : (ℕ → Option ℕ) → ℕ → List Call → ℕ → Option ℕ
came_from came at [] = came
came_from came at (call ∷ calls) = came_from (came_after came at call) (at + 1) calls

left_more : (came : ℕ → Option ℕ) (at : ℕ) (calls : List Call) (c : Call) → left_from came at (calls ++ c ∷ []) ≡ left_from came at calls ++ left_by (came_from came at calls) c
unfolding came_from
left_more came at [] c = append-nil (left_by came c)
left_more came at (d ∷ calls) c =
    ap (λ xs. left_by came d ++ xs) (left_more (came_after came at d) (at + 1) calls c)
    ∙ sym (append_assoc (left_by came d) (left_from (came_after came at d) (at + 1) calls) (left_by (came_from (came_after came at d) (at + 1) calls) c))

-- ---- the last subscription of a lane

record Comes (lane at : ℕ) (came : ℕ → Option ℕ) (calls : List Call) : Type 0 where
  m : ℕ
  here : slice_get calls m ≡ Some (Subscribed lane)
  is : came_from came at calls lane ≡ Some (at + m)

comes_later : (lane at : ℕ) (came : ℕ → Option ℕ) (call : Call) (calls : List Call) → Comes lane (at + 1) (came_after came at call) calls → Comes lane at came (call ∷ calls)
unfolding came_from
comes_later lane at came call calls c = record {
  m = suc c.m;
  here = c.here;
  is = c.is ∙ ap Some (let e : at + 1 + c.m ≡ at + suc c.m = omega arith in e);
}

-- one call more in front
next : (lane x at : ℕ) (came : ℕ → Option ℕ) (call : Call) (calls : List Call)
    → (came_from (came_after came at call) (at + 1) calls lane ≡ Some x) ⊎ Comes lane (at + 1) (came_after came at call) calls
    → (came_from came at (call ∷ calls) lane ≡ Some x) ⊎ Comes lane at came (call ∷ calls)
unfolding came_from
next lane x at came call calls (inl e) = inl e
next lane x at came call calls (inr c) = inr (comes_later lane at came call calls c)

-- the call in front is the lane's
comes_here : (lane at : ℕ) (came : ℕ → Option ℕ) (call : Call) (calls : List Call) → call ≡ Subscribed lane
    → (came_from (came_after came at call) (at + 1) calls lane ≡ Some at) ⊎ Comes lane (at + 1) (came_after came at call) calls
    → Comes lane at came (call ∷ calls)
unfolding came_from
comes_here lane at came call calls here (inl e) = record {
  m = zero;
  here = ap Some here;
  is = e ∙ ap Some (let same : at ≡ at + zero = omega arith in same);
}
comes_here lane at came call calls here (inr c) = comes_later lane at came call calls c

came_here : (lane at : ℕ) (came : ℕ → Option ℕ) (call : Call) → call ≡ Subscribed lane → came_after came at call lane ≡ Some at
came_here lane at came call here =
    ap (λ (c : Call). came_after came at c lane) here ∙ ap (λ (b : Bool). cond b (Some at) (came lane)) (nat_eq_refl lane)

stays_or_comes : (lane x at : ℕ) (came : ℕ → Option ℕ) (calls : List Call) → came lane ≡ Some x → (came_from came at calls lane ≡ Some x) ⊎ Comes lane at came calls
unfolding came_from
stays_or_comes lane x at came [] e = inl e
stays_or_comes lane x at came (Posted now alerts ∷ calls) e = next lane x at came (Posted now alerts) calls (stays_or_comes lane x (at + 1) (came_after came at (Posted now alerts)) calls e)
stays_or_comes lane x at came (Collected now ∷ calls) e = next lane x at came (Collected now) calls (stays_or_comes lane x (at + 1) (came_after came at (Collected now)) calls e)
stays_or_comes lane x at came (Left other ∷ calls) e = next lane x at came (Left other) calls (stays_or_comes lane x (at + 1) (came_after came at (Left other)) calls e)
stays_or_comes lane x at came (Closed ∷ calls) e = next lane x at came Closed calls (stays_or_comes lane x (at + 1) (came_after came at Closed) calls e)
stays_or_comes lane x at came (Subscribed other ∷ calls) e =
    elim (eqb_tells other lane) [
      | inl same ↦ inr (comes_here lane at came (Subscribed other) calls (ap Subscribed same.1) (stays_or_comes lane at (at + 1) (came_after came at (Subscribed other)) calls (came_here lane at came (Subscribed other) (ap Subscribed same.1))))
      | inr ne ↦ next lane x at came (Subscribed other) calls (stays_or_comes lane x (at + 1) (came_after came at (Subscribed other)) calls (ap (λ (b : Bool). cond b (Some at) (came lane)) ne.0 ∙ e))
    ]

same_call : (call other : Call) → Some call ≡ Some other → call ≡ other
same_call call other e = cc

comes : (lane at : ℕ) (came : ℕ → Option ℕ) (calls : List Call) (i : ℕ) → slice_get calls i ≡ Some (Subscribed lane) → (c : Comes lane at came calls) × (i ≤ c.m)
unfolding comes_later
comes lane at came [] i e = absurd (cc)
comes lane at came (call ∷ calls) zero e =
    let here = same_call call (Subscribed lane) e in
    (comes_here lane at came call calls here (stays_or_comes lane at (at + 1) (came_after came at call) calls (came_here lane at came call here)), omega arith)
comes lane at came (call ∷ calls) (suc i) e =
    let c = comes lane (at + 1) (came_after came at call) calls i e in
    let low = c.1 in
    (comes_later lane at came call calls c.0, (omega arith))

-- an open subscription is the last of its lane
pub came_is : (journal : JournalView) (lane at : ℕ) → IsLegal journal → IsOpenSubscription journal lane at → came_from (λ other. None) journal.before journal.calls lane ≡ Some at
came_is journal lane at legal of =
    let c = comes lane journal.before (λ other. None) journal.calls (at - journal.before) of.entry in
    let m = c.0.m in
    let low : at - journal.before ≤ m = c.1 in
    let there : journal.before + m - journal.before ≡ m = omega arith in
    let parts : (at - journal.before) + (m - (at - journal.before)) ≡ m = omega arith in
    let rest : drop (m - (at - journal.before)) (drop (at - journal.before) journal.calls) ≡ since journal (journal.before + m) =
    drop_twice (at - journal.before) (m - (at - journal.before)) journal.calls ∙ ap (λ n. drop n journal.calls) (parts ∙ sym there) in
    let last : IsOpenSubscription journal lane (journal.before + m) = record {
      begun = omega arith;
      entry = ap (slice_get journal.calls) there ∙ c.0.here;
      kept = subst (IsKept lane) rest (All-drop (λ (call : Call). open_after lane true call ≡ true) (m - (at - journal.before)) (since journal at) of.kept);
    } in
    c.0.is ∙ ap Some (sym (one_open journal lane at (journal.before + m) legal of last))

-- ---- a journal that grows

pub left_grown : (journal : JournalView) (c : Call) → left_ats (with_call journal c) ≡ left_ats journal ++ left_by (came_from (λ lane. None) journal.before journal.calls) c
left_grown journal c = left_more (λ lane. None) journal.before journal.calls c

-- ---- a journal that is trimmed

-- a number, where it isn't below another
late : ℕ → Option ℕ → Option ℕ
late b None = None
late b (Some at) = cond (nat_le b at) (Some at) None

at_of_late : (b : ℕ) (o : Option ℕ) → filter (nat_le b) (at_of o) ≡ at_of (late b o)
unfolding late
at_of_late b None = refl
at_of_late b (Some at) = by_bool {P = filter (nat_le b) (at_of (Some at)) ≡ at_of (late b (Some at))} (nat_le b at)
    (λ t. ap (λ (v : Bool). cond v (at ∷ []) []) t ∙ sym (ap (λ (v : Bool). at_of (cond v (Some at) None)) t))
    (λ n. ap (λ (v : Bool). cond v (at ∷ []) []) n ∙ sym (ap (λ (v : Bool). at_of (cond v (Some at) None)) n))

left_late : (b : ℕ) (was now : ℕ → Option ℕ) (call : Call) → ((lane : ℕ) → late b (was lane) ≡ now lane) → filter (nat_le b) (left_by was call) ≡ left_by now call
left_late b was now (Posted at alerts) rel = refl
left_late b was now (Collected at) rel = refl
left_late b was now (Subscribed lane) rel = refl
left_late b was now (Left lane) rel = at_of_late b (was lane) ∙ ap at_of (rel lane)
left_late b was now Closed rel = refl

after_late : (b at : ℕ) (was now : ℕ → Option ℕ) (call : Call) → b ≤ at → ((lane : ℕ) → late b (was lane) ≡ now lane) → (lane : ℕ) → late b (came_after was at call lane) ≡ came_after now at call lane
unfolding late
after_late b at was now (Posted moment alerts) h rel lane = rel lane
after_late b at was now (Collected moment) h rel lane = rel lane
after_late b at was now (Left other) h rel lane = rel lane
after_late b at was now Closed h rel lane = rel lane
after_late b at was now (Subscribed other) h rel lane =
    by_bool {P = late b (cond (nat_eq other lane) (Some at) (was lane)) ≡ cond (nat_eq other lane) (Some at) (now lane)} (nat_eq other lane)
    (λ t. ap (λ (v : Bool). late b (cond v (Some at) (was lane))) t ∙ (ap (λ (v : Bool). cond v (Some at) None) (le-leb b at h) ∙ sym (ap (λ (v : Bool). cond v (Some at) (now lane)) t)))
    (λ n. ap (λ (v : Bool). late b (cond v (Some at) (was lane))) n ∙ (rel lane ∙ sym (ap (λ (v : Bool). cond v (Some at) (now lane)) n)))

all_late : (b at : ℕ) (was now : ℕ → Option ℕ) (calls : List Call) → b ≤ at → ((lane : ℕ) → late b (was lane) ≡ now lane) → filter (nat_le b) (left_from was at calls) ≡ left_from now at calls
all_late b at was now [] h rel = refl
all_late b at was now (call ∷ calls) h rel =
    filter-append (nat_le b) (left_by was call) (left_from (came_after was at call) (at + 1) calls)
    ∙ (ap (λ xs. xs ++ filter (nat_le b) (left_from (came_after was at call) (at + 1) calls)) (left_late b was now call rel)
    ∙ ap (λ xs. left_by now call ++ xs) (all_late b (at + 1) (came_after was at call) (came_after now at call) calls (omega arith) (after_late b at was now call h rel)))

none_late : (b : ℕ) (o : Option ℕ) → ((x : ℕ) → o ≡ Some x → x < b) → late b o ≡ None
unfolding late
none_late b None low = refl
none_late b (Some x) low = ap (λ (v : Bool). cond v (Some x) None) (lt-leb b x (low x refl))

after_low : (b at lane x : ℕ) (was : ℕ → Option ℕ) (call : Call) → at < b → ((other y : ℕ) → was other ≡ Some y → y < b) → came_after was at call lane ≡ Some x → x < b
after_low b at lane x was (Posted now alerts) h low e = low lane x e
after_low b at lane x was (Collected now) h low e = low lane x e
after_low b at lane x was (Left other) h low e = low lane x e
after_low b at lane x was Closed h low e = low lane x e
after_low b at lane x was (Subscribed other) h low e =
    by_bool {P = x < b} (nat_eq other lane)
    (λ t. let same : Some at ≡ Some x = sym (ap (λ (v : Bool). cond v (Some at) (was lane)) t) ∙ e in let is : at ≡ x = cc in omega arith)
    (λ n. low lane x (sym (ap (λ (v : Bool). cond v (Some at) (was lane)) n) ∙ e))

dropped_late : (b at k : ℕ) (was : ℕ → Option ℕ) (calls : List Call) → at + k ≡ b → ((lane x : ℕ) → was lane ≡ Some x → x < b)
    → filter (nat_le b) (left_from was at calls) ≡ left_from (λ lane. None) b (drop k calls)
dropped_late b at zero was calls e low =
    let here : at ≡ b = omega arith in
    all_late b at was (λ lane. None) calls (omega arith) (λ lane. none_late b (was lane) (low lane)) ∙ ap (λ n. left_from (λ lane. None) n calls) here
dropped_late b at (suc k) was [] e low = refl
dropped_late b at (suc k) was (call ∷ calls) e low =
    let h : at < b = omega arith in
    filter-append (nat_le b) (left_by was call) (left_from (came_after was at call) (at + 1) calls)
    ∙ (ap (λ xs. xs ++ filter (nat_le b) (left_from (came_after was at call) (at + 1) calls)) (left_late b was (λ lane. None) call (λ lane. none_late b (was lane) (low lane)) ∙ none_left call)
    ∙ dropped_late b (at + 1) k (came_after was at call) calls (omega arith) (λ lane x. after_low b at lane x was call h low))
  where
    none_left : (call : Call) → left_by (λ lane. None) call ≡ []
    none_left (Posted now alerts) = refl
    none_left (Collected now) = refl
    none_left (Subscribed lane) = refl
    none_left (Left lane) = refl
    none_left Closed = refl

never : (o : Option ℕ) (x b : ℕ) → o ≡ None → o ≡ Some x → x < b
never o x b none e = absurd (cc)

pub lefts_trimmed : (old new : JournalView) (count : ℕ) → IsTrimmed old count new → filter (nat_le new.before) (left_ats old) ≡ left_ats new
lefts_trimmed old new count of =
    dropped_late new.before old.before count (λ lane. None) old.calls (sym of.before) (λ lane x e. never None x new.before refl e)
    ∙ ap (λ (calls : List Call). left_from (λ lane. None) new.before calls) (sym of.calls)

pub ats_kept : (b : ℕ) (endings : List Ended) → map (λ (e : Ended). e.at) (filter (λ (e : Ended). nat_le b e.at) endings) ≡ filter (nat_le b) (map (λ (e : Ended). e.at) endings)
ats_kept b [] = refl
ats_kept b (e ∷ endings) =
    let rest = ats_kept b endings in
    let was = filter (λ (d : Ended). nat_le b d.at) endings in
    let now = filter (nat_le b) (map (λ (d : Ended). d.at) endings) in
    by_bool {P = map (λ (d : Ended). d.at) (filter (λ (d : Ended). nat_le b d.at) (e ∷ endings)) ≡ filter (nat_le b) (map (λ (d : Ended). d.at) (e ∷ endings))} (nat_le b e.at)
    (λ t. ap (λ (v : Bool). map (λ (d : Ended). d.at) (cond v (e ∷ was) was)) t ∙ (ap (λ ats. e.at ∷ ats) rest ∙ sym (ap (λ (v : Bool). cond v (e.at ∷ now) now) t)))
    (λ n. ap (λ (v : Bool). map (λ (d : Ended). d.at) (cond v (e ∷ was) was)) n ∙ (rest ∙ sym (ap (λ (v : Bool). cond v (e.at ∷ now) now) n)))

-- ---- one call more

pub lefts_quiet : (journal : JournalView) (c : Call) → ((came : ℕ → Option ℕ) → left_by came c ≡ []) → left_ats journal ≡ left_ats (with_call journal c)
lefts_quiet journal c quiet =
    sym (left_grown journal c ∙ (ap (λ xs. left_ats journal ++ xs) (quiet (came_from (λ lane. None) journal.before journal.calls)) ∙ append-nil (left_ats journal)))

-- a call that gives no subscription back is no Left
quiet_is_none : (c : Call) → ((came : ℕ → Option ℕ) → left_by came c ≡ []) → count_by is_left (c ∷ []) ≡ 0
quiet_is_none (Posted now alerts) quiet = refl
quiet_is_none (Collected now) quiet = refl
quiet_is_none (Subscribed lane) quiet = refl
quiet_is_none (Left lane) quiet = absurd (let no : 0 ∷ [] ≡ [] = quiet (λ other. Some 0) in cc)
quiet_is_none Closed quiet = refl

pub count_quiet : (journal : JournalView) (c : Call) → ((came : ℕ → Option ℕ) → left_by came c ≡ []) → lefts_of (with_call journal c) ≡ lefts_of journal
count_quiet journal c quiet = omega (arith, lefts_last journal c, quiet_is_none c quiet)

pub count_left : (journal : JournalView) (lane : ℕ) → lefts_of (with_call journal (Left lane)) ≡ lefts_of journal + 1
count_left journal lane = lefts_last journal (Left lane)

pub lefts_left : (journal : JournalView) (lane at : ℕ) → IsLegal journal → IsOpenSubscription journal lane at → left_ats (with_call journal (Left lane)) ≡ left_ats journal ++ at ∷ []
lefts_left journal lane at legal of = left_grown journal (Left lane) ∙ ap (λ o. left_ats journal ++ at_of o) (came_is journal lane at legal of)
