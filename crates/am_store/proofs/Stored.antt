-- The stored list goes on step by step: a report is absorbed into it, a collection filters it.
use Rattle.std.proofs.Common.{◌≡◌, ◌≢◌, ℕ, zero, suc, ◌+◌, ◌<◌, ◌≤◌, Bool, true, false, not, ◌&&◌, cond, nat_eq, List, [], ◌∷◌, ◌++◌, map, filter, length, Option, Some, None, refl, sym, ap, subst, ◌∙◌, arith}
use Rattle.std.specs.Option.{option_to_list, option_map, IfSome}
use Rattle.std.proofs.lemmas.List.{append_assoc, append-nil}
use Rattle.std.proofs.lemmas.Bool.{ne_eqb}
use Rattle.am_alert.specs.declared.alert.Alert.{Alert}
use Rattle.am_labels.specs.LabelSets.{Labels, same_labels}
use Rattle.am_labels.specs.LabelLaws.{labels_equiv, labels_decide}
use Rattle.am_alert.specs.Merging.{absorbed, is_resolved_at}
use Rattle.am_store.specs.Stored.{Update, Report, Collect, Holding, after_report, after_collection, after_update, holding_from, holding_of, begun_at, stored_at, gathered, stored}
use Rattle.am_store.specs.Broadcast.{alert_held, batch_of}
use Rattle.am_store.specs.AlertList.{lookup, with_alert, with_alerts, absorb_into, batch_by_list, absent, AreDistinct}

pub by_bool : {P : Type 0} (b : Bool) → (b ≡ true → P) → (b ≡ false → P) → P
by_bool true p q = p refl
by_bool false p q = q refl

pub by_option : {A P : Type 0} (o : Option A) → (o ≡ None → P) → ((x : A) → o ≡ Some x → P) → P
by_option None p q = p refl
by_option (Some x) p q = q x refl

-- ---- one more step

held_from_last : (labels : Labels) (place : ℕ) (h : Option Holding) (ss : List Update) (s : Update) → holding_from labels place h (ss ++ s ∷ []) ≡ after_update labels (place + length ss) (holding_from labels place h ss) s
held_from_last labels place h [] s = let e : place ≡ place + 0 = omega arith in ap (λ n. after_update labels n h s) e
held_from_last labels place h (r ∷ ss) s =
    let e : (place + 1) + length ss ≡ place + suc (length ss) = omega arith in
    held_from_last labels (place + 1) (after_update labels place h r) ss s ∙ ap (λ n. after_update labels n (holding_from labels (place + 1) (after_update labels place h r) ss) s) e

pub held_last : (labels : Labels) (ss : List Update) (s : Update) → holding_of labels (ss ++ s ∷ []) ≡ after_update labels (length ss) (holding_of labels ss) s
held_last labels ss s = let e : 0 + length ss ≡ length ss = omega arith in held_from_last labels 0 None ss s ∙ ap (λ n. after_update labels n (holding_of labels ss) s) e

gathered_last : (f : ℕ → Update → Option Alert) (place : ℕ) (ss : List Update) (s : Update) → gathered f place (ss ++ s ∷ []) ≡ gathered f place ss ++ option_to_list (f (place + length ss) s)
gathered_last f place [] s = let e : place ≡ place + 0 = omega arith in append-nil (option_to_list (f place s)) ∙ ap (λ n. option_to_list (f n s)) e
gathered_last f place (r ∷ ss) s = let rest = gathered_last f (place + 1) ss s in grind arith

-- the same alerts at each place before n, or each changed, or some left out
gathered_same : (f g : ℕ → Update → Option Alert) (n : ℕ) → ((p : ℕ) (s : Update) → p < n → f p s ≡ g p s) → (place : ℕ) (ss : List Update) → place + length ss ≤ n → gathered f place ss ≡ gathered g place ss
gathered_same f g n e place [] h = refl
gathered_same f g n e place (s ∷ ss) h =
    let a : place < n = omega arith in
    let b : (place + 1) + length ss ≤ n = omega arith in
    ap (λ o. option_to_list o ++ gathered f (place + 1) ss) (e place s a) ∙ ap (λ rest. option_to_list (g place s) ++ rest) (gathered_same f g n e (place + 1) ss b)

map_front : (h : Alert → Alert) (o : Option Alert) (rest : List Alert) → option_to_list (option_map h o) ++ map h rest ≡ map h (option_to_list o ++ rest)
map_front h None rest = refl
map_front h (Some x) rest = refl

gathered_map : (f g : ℕ → Update → Option Alert) (h : Alert → Alert) (n : ℕ) → ((p : ℕ) (s : Update) → p < n → f p s ≡ option_map h (g p s)) → (place : ℕ) (ss : List Update) → place + length ss ≤ n → gathered f place ss ≡ map h (gathered g place ss)
gathered_map f g h n e place [] l = refl
gathered_map f g h n e place (s ∷ ss) l =
    let a : place < n = omega arith in
    let b : (place + 1) + length ss ≤ n = omega arith in
    ap (λ o. option_to_list o ++ gathered f (place + 1) ss) (e place s a) ∙ (ap (λ rest. option_to_list (option_map h (g place s)) ++ rest) (gathered_map f g h n e (place + 1) ss b) ∙ map_front h (g place s) (gathered g (place + 1) ss))

keep_if : (Alert → Bool) → Option Alert → Option Alert
keep_if q None = None
keep_if q (Some x) = cond (q x) (Some x) None

filter_front : (q : Alert → Bool) (o : Option Alert) (rest : List Alert) → option_to_list (keep_if q o) ++ filter q rest ≡ filter q (option_to_list o ++ rest)
unfolding keep_if
filter_front q None rest = refl
filter_front q (Some x) rest = elim (q x) as (λ b. option_to_list (cond b (Some x) None) ++ filter q rest ≡ cond b (x ∷ filter q rest) (filter q rest)) [ true ↦ refl | false ↦ refl ]

gathered_filter : (f g : ℕ → Update → Option Alert) (q : Alert → Bool) (n : ℕ) → ((p : ℕ) (s : Update) → p < n → f p s ≡ keep_if q (g p s)) → (place : ℕ) (ss : List Update) → place + length ss ≤ n → gathered f place ss ≡ filter q (gathered g place ss)
gathered_filter f g q n e place [] l = refl
gathered_filter f g q n e place (s ∷ ss) l =
    let a : place < n = omega arith in
    let b : (place + 1) + length ss ≤ n = omega arith in
    ap (λ o. option_to_list o ++ gathered f (place + 1) ss) (e place s a) ∙ (ap (λ rest. option_to_list (keep_if q (g place s)) ++ rest) (gathered_filter f g q n e (place + 1) ss b) ∙ filter_front q (g place s) (gathered g (place + 1) ss))

-- ---- what a label set holds has its labels, and began before now

pub absorbed_labels : (now : ℕ) (old new : Alert) → old.labels ≡ new.labels → (absorbed now (Some old) new).labels ≡ new.labels
absorbed_labels now old new e = grind arith

pub record Sits (labels : Labels) (n : ℕ) (held : Holding) : Type 0 where
  pub early : held.since < n
  pub own : held.alert.labels ≡ labels

sits_after : (labels : Labels) (place : ℕ) (h : Option Holding) (s : Update) → IfSome h (Sits labels place) → IfSome (after_update labels place h s) (Sits labels (place + 1))
sits_after labels place None (Report now new) sits = grind (arith, labels_decide)
sits_after labels place (Some h) (Report now new) sits = grind (arith, sits, absorbed_labels, labels_decide)
sits_after labels place None (Collect now) sits = tt
sits_after labels place (Some h) (Collect now) sits = grind arith

sits_from : (labels : Labels) (place : ℕ) (h : Option Holding) (ss : List Update) → IfSome h (Sits labels place) → IfSome (holding_from labels place h ss) (Sits labels (place + length ss))
sits_from labels place h [] sits = let e : place ≡ place + 0 = omega arith in subst (λ n. IfSome h (Sits labels n)) e sits
sits_from labels place h (s ∷ ss) sits =
    let e : (place + 1) + length ss ≡ place + suc (length ss) = omega arith in
    subst (λ n. IfSome (holding_from labels (place + 1) (after_update labels place h s) ss) (Sits labels n)) e (sits_from labels (place + 1) (after_update labels place h s) ss (sits_after labels place h s sits))

pub sits : (labels : Labels) (ss : List Update) → IfSome (holding_of labels ss) (Sits labels (length ss))
sits labels ss = let e : 0 + length ss ≡ length ss = omega arith in subst (λ n. IfSome (holding_of labels ss) (Sits labels n)) e (sits_from labels 0 None ss tt)

-- ---- a report comes

-- what the new report makes of an alert
pub update : ℕ → Alert → Alert → Alert
update now new b = cond (same_labels new.labels b.labels) (absorbed now (Some b) new) b

update_other : (now : ℕ) (new b : Alert) → same_labels new.labels b.labels ≡ false → update now new b ≡ b
unfolding update
update_other now new b e = ap (λ t. cond t (absorbed now (Some b) new) b) e

update_own : (now : ℕ) (new b : Alert) → b.labels ≡ new.labels → update now new b ≡ absorbed now (Some b) new
unfolding update
update_own now new b e = ap (λ t. cond t (absorbed now (Some b) new) b) ((labels_decide new.labels b.labels).1 (sym e))

update_labels : (now : ℕ) (new b : Alert) → (update now new b).labels ≡ b.labels
update_labels now new b =
    grind (arith, labels_decide, update_own, absorbed_labels, update_other, labels_equiv, append_assoc, append-nil)

begun_at_end : (n p : ℕ) (a : Alert) → p < n → begun_at p (Some (record { since = n; alert = a })) ≡ None
begun_at_end n p a h = ap (λ b. cond b (Some a) None) (ne_eqb n p (λ e. omega arith))

stored_at_new : (ss : List Update) (now : ℕ) (new : Alert) → holding_of new.labels ss ≡ None → (p : ℕ) (s : Update) → p < length ss → stored_at (ss ++ Report now new ∷ []) p s ≡ stored_at ss p s
stored_at_new ss now new none p (Report t x) h =
    grind (arith, held_last, labels_decide, begun_at_end, labels_equiv, append_assoc, append-nil)
stored_at_new ss now new none p (Collect t) h = refl

sits_at : (labels : Labels) (ss : List Update) (h : Holding) → holding_of labels ss ≡ Some h → Sits labels (length ss) h
sits_at labels ss h e = subst (λ o. IfSome o (Sits labels (length ss))) e (sits labels ss)

stored_at_update : (now : ℕ) (new : Alert) (p : ℕ) (since : ℕ) (a b : Alert) → b ≡ update now new a → begun_at p (Some (record { since = since; alert = b })) ≡ option_map (update now new) (begun_at p (Some (record { since = since; alert = a })))
stored_at_update now new p since a b e = grind arith

other_labels : (x new a : Labels) → a ≡ x → same_labels x new ≡ false → same_labels new a ≡ false
other_labels x new a e f = ap (same_labels new) e ∙ (labels_equiv.symm new x ∙ f)

stored_at_old : (ss : List Update) (now : ℕ) (new : Alert) (h : Holding) → holding_of new.labels ss ≡ Some h → (p : ℕ) (s : Update) → p < length ss → stored_at (ss ++ Report now new ∷ []) p s ≡ option_map (update now new) (stored_at ss p s)
stored_at_old ss now new h some p (Report t x) l =
    grind (arith, held_last, labels_decide, sits_at, stored_at_update, update_own, update_other, other_labels, labels_equiv, append_assoc, append-nil)
stored_at_old ss now new h some p (Collect t) l = refl

pub held_own : (ss : List Update) (now : ℕ) (new : Alert) → holding_of new.labels (ss ++ Report now new ∷ []) ≡ Some (after_report (length ss) now new (holding_of new.labels ss))
held_own ss now new = grind (arith, held_last, labels_equiv)

nat_eq_same : (n : ℕ) → nat_eq n n ≡ true
nat_eq_same n = Rattle.std.proofs.Common.eq-eqb n n refl

pub stored_new : (ss : List Update) (now : ℕ) (new : Alert) → holding_of new.labels ss ≡ None → stored (ss ++ Report now new ∷ []) ≡ stored ss ++ new ∷ []
stored_new ss now new none = grind (arith, held_own, nat_eq_same, gathered_last, gathered_same, stored_at_new)

pub stored_old : (ss : List Update) (now : ℕ) (new : Alert) (h : Holding) → holding_of new.labels ss ≡ Some h → stored (ss ++ Report now new ∷ []) ≡ map (update now new) (stored ss)
stored_old ss now new h some =
    let le : 0 + length ss ≤ length ss = omega arith in
    let at : 0 + length ss ≡ length ss = omega arith in
    let early = (sits_at new.labels ss h some).early in
    let apart : nat_eq h.since (length ss) ≡ false = ne_eqb h.since (length ss) (λ e. omega arith) in
    let last : stored_at (ss ++ Report now new ∷ []) (0 + length ss) (Report now new) ≡ None =
    ap (λ m. begun_at m (holding_of new.labels (ss ++ Report now new ∷ []))) at ∙ (ap (begun_at (length ss)) (held_own ss now new ∙ ap (λ o. Some (after_report (length ss) now new o)) some) ∙ ap (λ b. cond b (Some (absorbed now (Some h.alert) new)) None) apart) in
    gathered_last (stored_at (ss ++ Report now new ∷ [])) 0 ss (Report now new)
    ∙ (ap (λ o. gathered (stored_at (ss ++ Report now new ∷ [])) 0 ss ++ option_to_list o) last
    ∙ (append-nil (gathered (stored_at (ss ++ Report now new ∷ [])) 0 ss)
    ∙ gathered_map (stored_at (ss ++ Report now new ∷ [])) (stored_at ss) (update now new) (length ss) (stored_at_old ss now new h some) 0 ss le))

-- ---- a collection comes

lives : ℕ → Alert → Bool
lives now a = not (is_resolved_at now a)

begun_at_collection : (now p : ℕ) (o : Option Holding) → begun_at p (after_collection now o) ≡ keep_if (lives now) (begun_at p o)
unfolding keep_if lives
begun_at_collection now p None = refl
begun_at_collection now p (Some h) = grind arith

stored_at_collect : (ss : List Update) (now p : ℕ) (s : Update) → p < length ss → stored_at (ss ++ Collect now ∷ []) p s ≡ keep_if (lives now) (stored_at ss p s)
unfolding keep_if
stored_at_collect ss now p (Report t x) l = ap (begun_at p) (held_last x.labels ss (Collect now)) ∙ begun_at_collection now p (holding_of x.labels ss)
stored_at_collect ss now p (Collect t) l = refl

pub stored_collect : (ss : List Update) (now : ℕ) → stored (ss ++ Collect now ∷ []) ≡ filter (λ a. not (is_resolved_at now a)) (stored ss)
unfolding lives
stored_collect ss now = grind (arith, gathered_last, append-nil, gathered_filter, stored_at_collect)

-- ---- the stored list by label sets

lookup_push : (labels : Labels) (olds : List Alert) (new : Alert) → lookup labels olds ≡ None → lookup labels (olds ++ new ∷ []) ≡ cond (same_labels labels new.labels) (Some new) None
lookup_push labels [] new e = refl
lookup_push labels (a ∷ olds) new e = let rest = lookup_push labels olds new in grind arith

lookup_before : (labels : Labels) (olds : List Alert) (new : Alert) → same_labels labels new.labels ≡ false → lookup labels (olds ++ new ∷ []) ≡ lookup labels olds
lookup_before labels [] new f = ap (λ b. cond b (Some new) None) f
lookup_before labels (a ∷ olds) new f = ap (cond (same_labels labels a.labels) (Some a)) (lookup_before labels olds new f)

lookup_map : (u : Alert → Alert) → ((b : Alert) → (u b).labels ≡ b.labels) → (labels : Labels) (olds : List Alert) → lookup labels (map u olds) ≡ option_map u (lookup labels olds)
lookup_map u same labels [] = refl
lookup_map u same labels (a ∷ olds) =
    ap (λ l. cond (same_labels labels l) (Some (u a)) (lookup labels (map u olds))) (same a)
    ∙ (ap (cond (same_labels labels a.labels) (Some (u a))) (lookup_map u same labels olds)
    ∙ elim (same_labels labels a.labels) as (λ b. cond b (Some (u a)) (option_map u (lookup labels olds)) ≡ option_map u (cond b (Some a) (lookup labels olds))) [ true ↦ refl | false ↦ refl ])

absent_map : (u : Alert → Alert) → ((b : Alert) → (u b).labels ≡ b.labels) → (labels : Labels) (olds : List Alert) → absent labels (map u olds) ≡ absent labels olds
absent_map u same labels [] = refl
absent_map u same labels (a ∷ olds) = ap (λ l. not (same_labels labels l) && absent labels (map u olds)) (same a) ∙ ap (λ b. not (same_labels labels a.labels) && b) (absent_map u same labels olds)

distinct_map : (u : Alert → Alert) → ((b : Alert) → (u b).labels ≡ b.labels) → (olds : List Alert) → AreDistinct olds → AreDistinct (map u olds)
distinct_map u same [] d = tt
distinct_map u same (a ∷ olds) d = (absent_map u same (u a).labels olds ∙ (ap (λ l. absent l olds) (same a) ∙ d.0), distinct_map u same olds d.1)

absent_push : (labels : Labels) (olds : List Alert) (new : Alert) → absent labels olds ≡ true → same_labels labels new.labels ≡ false → absent labels (olds ++ new ∷ []) ≡ true
absent_push labels [] new e f = ap (λ b. not b && true) f
absent_push labels (a ∷ olds) new e f = let rest = absent_push labels olds new in grind arith

distinct_push : (olds : List Alert) (new : Alert) → AreDistinct olds → lookup new.labels olds ≡ None → AreDistinct (olds ++ new ∷ [])
distinct_push [] new d e = (refl, tt)
distinct_push (a ∷ olds) new d e = let rest = distinct_push olds new in grind (arith, absent_push, labels_equiv)

pub absent_lookup : (labels : Labels) (olds : List Alert) → absent labels olds ≡ true → lookup labels olds ≡ None
absent_lookup labels [] e = refl
absent_lookup labels (a ∷ olds) e = let rest = absent_lookup labels olds in grind arith

absent_filter : (q : Alert → Bool) (labels : Labels) (olds : List Alert) → absent labels olds ≡ true → absent labels (filter q olds) ≡ true
absent_filter q labels [] e = refl
absent_filter q labels (a ∷ olds) e = let rest = absent_filter q labels olds in grind arith

distinct_filter : (q : Alert → Bool) (olds : List Alert) → AreDistinct olds → AreDistinct (filter q olds)
distinct_filter q [] d = tt
distinct_filter q (a ∷ olds) d = elim (q a) as (λ b. AreDistinct (cond b (a ∷ filter q olds) (filter q olds))) [ true ↦ (absent_filter q a.labels olds d.0, distinct_filter q olds d.1) | false ↦ distinct_filter q olds d.1 ]

lookup_filter : (q : Alert → Bool) (labels : Labels) (olds : List Alert) → AreDistinct olds → lookup labels (filter q olds) ≡ keep_if q (lookup labels olds)
unfolding keep_if
lookup_filter q labels [] d = refl
lookup_filter q labels (a ∷ olds) d =
    let rest = lookup_filter q labels olds in
    grind (arith, absent_lookup, absent_filter, labels_decide, keep_if)

-- the stored list has what each label set holds, each once
pub record Agree (ss : List Update) : Type 0 where
  pub found : (labels : Labels) → lookup labels (stored ss) ≡ option_map (λ (h : Holding). h.alert) (holding_of labels ss)
  pub distinct : AreDistinct (stored ss)

alert_in : Option Holding → Option Alert
alert_in o = option_map (λ (h : Holding). h.alert) o

agree_new : (ss : List Update) (now : ℕ) (new : Alert) → Agree ss → holding_of new.labels ss ≡ None → Agree (ss ++ Report now new ∷ [])
unfolding alert_in
agree_new ss now new agree none =
    grind (arith, alert_in, stored_new, labels_decide, lookup_push, lookup_before, held_last, distinct_push, labels_equiv, append_assoc, append-nil)

agree_old : (ss : List Update) (now : ℕ) (new : Alert) (h : Holding) → Agree ss → holding_of new.labels ss ≡ Some h → Agree (ss ++ Report now new ∷ [])
unfolding alert_in
agree_old ss now new h agree some =
    grind (arith, stored_old, lookup_map, update_labels, alert_in, labels_decide, update_own, sits_at, update_other, other_labels, held_last, distinct_map, labels_equiv, append_assoc, append-nil)

alert_in_collection : (now : ℕ) (o : Option Holding) → keep_if (lives now) (alert_in o) ≡ alert_in (after_collection now o)
unfolding keep_if lives alert_in
alert_in_collection now None = refl
alert_in_collection now (Some h) = elim (is_resolved_at now h.alert) as (λ b. cond (not b) (Some h.alert) None ≡ option_map (λ (h : Holding). h.alert) (cond b None (Some h))) [ true ↦ refl | false ↦ refl ]

agree_collect : (ss : List Update) (now : ℕ) → Agree ss → Agree (ss ++ Collect now ∷ [])
unfolding alert_in lives
agree_collect ss now agree =
    record {
      found = λ labels.
          ap (lookup labels) (stored_collect ss now)
          ∙ (lookup_filter (lives now) labels (stored ss) agree.distinct ∙ (ap (keep_if (lives now)) (agree.found labels) ∙ (alert_in_collection now (holding_of labels ss) ∙ ap alert_in (sym (held_last labels ss (Collect now))))));
      distinct = subst AreDistinct (sym (stored_collect ss now)) (distinct_filter (lives now) (stored ss) agree.distinct);
    }

agree_step : (ss : List Update) (s : Update) → Agree ss → Agree (ss ++ s ∷ [])
agree_step ss (Report now new) agree = by_option (holding_of new.labels ss) (λ none. agree_new ss now new agree none) (λ h some. agree_old ss now new h agree some)
agree_step ss (Collect now) agree = agree_collect ss now agree

agree_more : (before ss : List Update) → Agree before → Agree (before ++ ss)
agree_more before [] agree = subst Agree (sym (append-nil before)) agree
agree_more before (s ∷ ss) agree = subst Agree (append_assoc before (s ∷ []) ss) (agree_more (before ++ s ∷ []) ss (agree_step before s agree))

pub agrees : (ss : List Update) → Agree ss
agrees ss = agree_more [] ss (record { found = λ labels. refl; distinct = tt })

-- ---- reports absorbed into a list

pub with_alert_absent : (alert : Alert) (olds : List Alert) → lookup alert.labels olds ≡ None → with_alert alert olds ≡ olds ++ alert ∷ []
with_alert_absent alert [] e = refl
with_alert_absent alert (a ∷ olds) e = let rest = with_alert_absent alert olds in grind arith

pub absorb_into_absent : (now : ℕ) (new : Alert) (olds : List Alert) → lookup new.labels olds ≡ None → absorb_into now new olds ≡ olds ++ new ∷ []
absorb_into_absent now new olds e = ap (λ o. with_alert (absorbed now o new) olds) e ∙ with_alert_absent new olds e

update_absent : (now : ℕ) (new : Alert) (olds : List Alert) → absent new.labels olds ≡ true → map (update now new) olds ≡ olds
update_absent now new [] e = refl
update_absent now new (a ∷ olds) e = let rest = update_absent now new olds in grind (arith, update_other)

with_alert_present : (now : ℕ) (new y x : Alert) (olds : List Alert) → y.labels ≡ new.labels → y ≡ absorbed now (Some x) new → AreDistinct olds → lookup new.labels olds ≡ Some x → with_alert y olds ≡ map (update now new) olds
with_alert_present now new y x [] l is d e = (cc)
with_alert_present now new y x (a ∷ olds) l is d e =
    by_bool (same_labels new.labels a.labels)
    (λ t.
    let own = (labels_decide new.labels a.labels).0 t in
    let some : Some a ≡ Some x = sym (ap (λ b. cond b (Some a) (lookup new.labels olds)) t) ∙ e in
    let same : a ≡ x = (cc) in
    ap (λ b. cond b (y ∷ olds) (a ∷ with_alert y olds)) (ap (λ l. same_labels l a.labels) l ∙ t)
    ∙ (ap (λ z. z ∷ olds) (is ∙ ap (λ z. absorbed now (Some z) new) (sym same))
    ∙ sym (ap (λ b. b ∷ map (update now new) olds) (update_own now new a (sym own)) ∙ ap (λ rest. absorbed now (Some a) new ∷ rest) (update_absent now new olds (ap (λ l. absent l olds) own ∙ d.0)))))
    (λ f.
    ap (λ b. cond b (y ∷ olds) (a ∷ with_alert y olds)) (ap (λ l. same_labels l a.labels) l ∙ f)
    ∙ (ap (λ rest. a ∷ rest) (with_alert_present now new y x olds l is d.1 (sym (ap (λ b. cond b (Some a) (lookup new.labels olds)) f) ∙ e)) ∙ ap (λ b. b ∷ map (update now new) olds) (sym (update_other now new a f))))

absorb_into_present : (now : ℕ) (new : Alert) (olds : List Alert) (x : Alert) → x.labels ≡ new.labels → AreDistinct olds → lookup new.labels olds ≡ Some x → absorb_into now new olds ≡ map (update now new) olds
absorb_into_present now new olds x own d e = grind (arith, with_alert_present, absorbed_labels)

-- a report is absorbed into the stored list
pub stored_report : (ss : List Update) (now : ℕ) (new : Alert) → stored (ss ++ Report now new ∷ []) ≡ absorb_into now new (stored ss)
unfolding alert_in
stored_report ss now new =
    grind (arith, stored_new, absorb_into_absent, agrees, alert_in, stored_old, absorb_into_present, sits_at)

after_report_alert : (n now : ℕ) (new : Alert) (o : Option Holding) → (after_report n now new o).alert ≡ absorbed now (alert_in o) new
unfolding alert_in
after_report_alert n now new None = refl
after_report_alert n now new (Some h) = refl

pub batch_of_one : (ss : List Update) (now : ℕ) (new : Alert) → alert_held (holding_of new.labels (ss ++ Report now new ∷ [])) ≡ absorbed now (lookup new.labels (stored ss)) new ∷ []
unfolding alert_in
batch_of_one ss now new = grind (arith, held_own, after_report_alert, agrees)

-- the reports of a post are absorbed one after another, and its batch is what each became
pub stored_post : (ss : List Update) (now : ℕ) (news : List Alert) → stored (ss ++ map (Report now) news) ≡ with_alerts (batch_by_list now news (stored ss)) (stored ss)
stored_post ss now [] = ap stored (append-nil ss)
stored_post ss now (new ∷ news) =
    ap stored (sym (append_assoc ss (Report now new ∷ []) (map (Report now) news)))
    ∙ (stored_post (ss ++ Report now new ∷ []) now news ∙ ap (λ olds. with_alerts (batch_by_list now news olds) olds) (stored_report ss now new))

pub batch_of_post : (ss : List Update) (now : ℕ) (news : List Alert) → batch_of ss now news ≡ batch_by_list now news (stored ss)
batch_of_post ss now [] = refl
batch_of_post ss now (new ∷ news) =
    ap (λ front. front ++ batch_of (ss ++ Report now new ∷ []) now news) (batch_of_one ss now new)
    ∙ ap (λ rest. absorbed now (lookup new.labels (stored ss)) new ∷ rest) (batch_of_post (ss ++ Report now new ∷ []) now news ∙ ap (batch_by_list now news) (stored_report ss now new))
