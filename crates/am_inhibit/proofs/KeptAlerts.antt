-- The alerts that are kept after takes and sweeps.
use Rattle.std.proofs.Common.{◌≡◌, ◌⊎◌, inl, inr, Bool, true, false, not, cond, List, [], ◌∷◌, ◌++◌, map, filter, fold, Option, Some, None, refl, sym, ap, subst, ◌∙◌, arith}
use Rattle.std.proofs.Common.{ℕ}
use Rattle.std.specs.List.{find, IsDistinct}
use Rattle.std.proofs.lemmas.List.{map-append}
use Rattle.std.specs.Option.{option_map, option_and_then}
use Rattle.am_labels.specs.LabelSets.{Labels, same_labels}
use Rattle.am_labels.specs.LabelLaws.{labels_decide, labels_equiv}
use Rattle.am_alert.specs.declared.alert.Alert.{Alert}
use Rattle.am_alert.specs.Merging.{is_resolved_at, unless_resolved, unresolved}
use Rattle.am_keyed.specs.Keyed.{with_last_alert}
use Rattle.am_inhibit.specs.LastAlerts.{label_sets, first_alerts, last_of, last_alerts}
use Rattle.am_inhibit.specs.KeptAlerts.{InhibitorEvent, Take, Sweep, lasting, before_others, kept_alerts, after_event, held_after}
use Rattle.am_inhibit.proofs.Cases.{by_bool}
use Rattle.am_inhibit.proofs.LastAlerts.{has, AreApart, same_turned, same_along, has-without, apart_less, apart_distinct}

-- alerts of other label sets
abbrev pub without : Labels → List Alert → List Alert
without labels alerts = filter (λ (other : Alert). not (same_labels labels other.labels)) alerts

-- the alert of a label set
abbrev pub alert_of : Labels → List Alert → Option Alert
alert_of labels alerts = find (λ (alert : Alert). same_labels labels alert.labels) alerts

-- the next alert, if it is of the same label set
next_or_last : Alert → Alert → Alert
next_or_last next last = cond (same_labels last.labels next.labels) next last

-- ---- the last alert of a label set

lasting-labels : (events : List InhibitorEvent) (alert last : Alert) → lasting events alert ≡ Some last → last.labels ≡ alert.labels
lasting-labels [] alert last e = let same : alert ≡ last = (cc) in ap (λ (a : Alert). a.labels) (sym same)
lasting-labels (Take next ∷ events) alert last e =
    let rest = lasting-labels events (cond (same_labels alert.labels next.labels) next alert) last in
    grind (arith, labels_decide)
lasting-labels (Sweep now ∷ events) alert last e = let rest = lasting-labels events alert last in grind arith

lasting-take : (events : List InhibitorEvent) (next alert : Alert) → lasting (events ++ Take next ∷ []) alert ≡ option_map (next_or_last next) (lasting events alert)
unfolding next_or_last
lasting-take [] next alert = refl
lasting-take (Take other ∷ events) next alert = lasting-take events next (cond (same_labels alert.labels other.labels) other alert)
lasting-take (Sweep now ∷ events) next alert = let rest = lasting-take events next alert in grind arith

lasting-sweep : (events : List InhibitorEvent) (now : ℕ) (alert : Alert) → lasting (events ++ Sweep now ∷ []) alert ≡ option_and_then (unless_resolved now) (lasting events alert)
lasting-sweep [] now alert = refl
lasting-sweep (Take other ∷ events) now alert = lasting-sweep events now (cond (same_labels alert.labels other.labels) other alert)
lasting-sweep (Sweep before ∷ events) now alert = let rest = lasting-sweep events now alert in grind arith

-- ---- what a label set holds

-- a label set that held an alert throughout holds what lasts of it
held_lasting : (labels : Labels) (events : List InhibitorEvent) (alert last : Alert) → alert.labels ≡ labels → lasting events alert ≡ Some last → fold (after_event labels) (Some alert) events ≡ Some last
held_lasting labels [] alert last own e = e
held_lasting labels (Take next ∷ events) alert last own e =
    let rest = held_lasting labels events next last in
    let other = held_lasting labels events alert last in
    grind (arith, labels_decide)
held_lasting labels (Sweep now ∷ events) alert last own e = let rest = held_lasting labels events alert last in grind arith

-- one whose alert a sweep removed holds what it would hold without it
held_gone : (labels : Labels) (events : List InhibitorEvent) (alert : Alert) → alert.labels ≡ labels → lasting events alert ≡ None → fold (after_event labels) (Some alert) events ≡ fold (after_event labels) None events
held_gone labels [] alert own e = absurd (cc)
held_gone labels (Take next ∷ events) alert own e = let rest = held_gone labels events alert in grind arith
held_gone labels (Sweep now ∷ events) alert own e = let rest = held_gone labels events alert in grind arith

-- without an alert at first it holds nothing, or the same
held_or : (labels : Labels) (events : List InhibitorEvent) (alert : Alert) → (fold (after_event labels) None events ≡ None) ⊎ (fold (after_event labels) None events ≡ fold (after_event labels) (Some alert) events)
held_or labels [] alert = inl refl
held_or labels (Take next ∷ events) alert = let rest = held_or labels events alert in grind arith
held_or labels (Sweep now ∷ events) alert = let rest = held_or labels events alert in grind arith

-- what is left without another label set has the same alert of this one
alert_of-without : (labels other : Labels) (alerts : List Alert) → same_labels other labels ≡ false → alert_of labels (without other alerts) ≡ alert_of labels alerts
alert_of-without labels other [] unlike = refl
alert_of-without labels other (alert ∷ alerts) unlike =
    let rest = alert_of-without labels other alerts in
    grind (arith, same_turned, same_along)

-- the alert kept of a label set is what it holds
pub kept_is_held : (labels : Labels) (events : List InhibitorEvent) → alert_of labels (kept_alerts events) ≡ held_after labels events
kept_is_held labels [] = refl
kept_is_held labels (Sweep now ∷ events) = kept_is_held labels events
kept_is_held labels (Take alert ∷ events) = by_last (lasting events alert) refl (kept_is_held labels events)
  where
    by_last : (o : Option Alert) → lasting events alert ≡ o → alert_of labels (kept_alerts events) ≡ held_after labels events → alert_of labels (before_others o (kept_alerts events)) ≡ held_after labels (Take alert ∷ events)
    by_last None gone rest = grind (arith, held_gone, labels_decide)
    by_last (Some last) lasts rest =
        let own = lasting-labels events alert last lasts in
        let decide = labels_decide labels alert.labels in
        let turned = same_turned last.labels labels in
        let held = held_lasting labels events alert last in
        let others = alert_of-without labels last.labels (kept_alerts events) in
        grind arith

pub kept_apart : (events : List InhibitorEvent) → AreApart (kept_alerts events)
kept_apart [] = tt
kept_apart (Sweep now ∷ events) = kept_apart events
kept_apart (Take alert ∷ events) =
    let later = kept_alerts events in
    elim (lasting events alert) as (λ o. AreApart (before_others o later)) [ None ↦ kept_apart events | Some last ↦ (has-without last.labels later, apart_less (λ (other : Alert). not (same_labels last.labels other.labels)) later (kept_apart events)) ]

-- ---- one take more

without-same : (next : Alert) (alerts : List Alert) → without next.labels (with_last_alert next alerts) ≡ without next.labels alerts
without-same next [] = ap (λ b. cond (not b) (next ∷ []) []) (labels_equiv.refl next.labels)
without-same next (old ∷ olds) = let rest = without-same next olds in grind (arith, labels_equiv)

without-other : (labels : Labels) (next : Alert) (alerts : List Alert) → same_labels labels next.labels ≡ false → without labels (with_last_alert next alerts) ≡ with_last_alert next (without labels alerts)
without-other labels next [] unlike = ap (λ b. cond (not b) (next ∷ []) []) unlike
without-other labels next (old ∷ olds) unlike =
    let rest = without-other labels next olds in
    grind (arith, labels_decide)

pub kept-take : (events : List InhibitorEvent) (next : Alert) → kept_alerts (events ++ Take next ∷ []) ≡ with_last_alert next (kept_alerts events)
unfolding next_or_last
kept-take [] next = refl
kept-take (Sweep now ∷ events) next = kept-take events next
kept-take (Take alert ∷ events) next =
    ap (λ o. before_others o (kept_alerts (events ++ Take next ∷ []))) (lasting-take events next alert)
    ∙ (ap (before_others (option_map (next_or_last next) (lasting events alert))) (kept-take events next) ∙ by_last (lasting events alert) (kept_alerts events))
  where
    by_last : (o : Option Alert) (later : List Alert) → before_others (option_map (next_or_last next) o) (with_last_alert next later) ≡ with_last_alert next (before_others o later)
    by_last None later = refl
    by_last (Some last) later =
        let decide = labels_decide last.labels next.labels in
        let turned = same_turned next.labels last.labels in
        let same = without-same next later in
        let other = without-other last.labels next later in
        grind arith

-- ---- one sweep more

pub filters_commute : {X : Type 0} (one other : X → Bool) (xs : List X) → filter one (filter other xs) ≡ filter other (filter one xs)
filters_commute one other [] = refl
filters_commute one other (x ∷ xs) = let rest = filters_commute one other xs in grind arith

without-none : (labels : Labels) (alerts : List Alert) → has labels alerts ≡ false → without labels alerts ≡ alerts
without-none labels [] none = refl
without-none labels (alert ∷ alerts) none = let rest = without-none labels alerts in grind arith

-- a label set whose alert is resolved has nothing more to lose
resolved_gone : (now : ℕ) (last : Alert) (alerts : List Alert) → AreApart alerts → is_resolved_at now last ≡ true → (alert_of last.labels alerts ≡ None) ⊎ (alert_of last.labels alerts ≡ Some last)
    → unresolved now alerts ≡ unresolved now (without last.labels alerts)
resolved_gone now last [] apart ended found = refl
resolved_gone now last (alert ∷ alerts) apart ended found =
    let rest = resolved_gone now last alerts in
    grind (arith, labels_decide, has, without-none)

pub kept-sweep : (events : List InhibitorEvent) (now : ℕ) → kept_alerts (events ++ Sweep now ∷ []) ≡ unresolved now (kept_alerts events)
kept-sweep [] now = refl
kept-sweep (Sweep before ∷ events) now = kept-sweep events now
kept-sweep (Take alert ∷ events) now =
    ap (λ o. before_others o (kept_alerts (events ++ Sweep now ∷ []))) (lasting-sweep events now alert)
    ∙ (ap (before_others (option_and_then (unless_resolved now) (lasting events alert))) (kept-sweep events now) ∙ by_last (lasting events alert) refl)
  where
    by_last : (o : Option Alert) → lasting events alert ≡ o → before_others (option_and_then (unless_resolved now) o) (unresolved now (kept_alerts events)) ≡ unresolved now (before_others o (kept_alerts events))
    by_last None gone = refl
    by_last (Some last) lasts =
        let later = kept_alerts events in
        let left = λ (b : Bool). before_others (cond b None (Some last)) (unresolved now later) in
        let is : alert_of last.labels later ≡ held_after alert.labels events = kept_is_held last.labels events ∙ ap (λ l. held_after l events) (lasting-labels events alert last lasts) in
        let found : (alert_of last.labels later ≡ None) ⊎ (alert_of last.labels later ≡ Some last) = elim (held_or alert.labels events alert) [
          | inl missing ↦ inl (is ∙ missing)
          | inr same ↦ inr (is ∙ (same ∙ held_lasting alert.labels events alert last refl lasts))
        ] in
        by_bool {P = left (is_resolved_at now last) ≡ unresolved now (before_others (Some last) later)} (is_resolved_at now last)
        (λ t. let gone = resolved_gone now last later (kept_apart events) t found in ap left t ∙ grind arith)
        (λ f. ap left f ∙ grind (arith, filters_commute))

-- ---- takes alone

lasting-takes : (alerts : List Alert) (alert : Alert) → lasting (map Take alerts) alert ≡ Some (last_of alerts alert)
lasting-takes [] alert = refl
lasting-takes (next ∷ alerts) alert = lasting-takes alerts (cond (same_labels alert.labels next.labels) next alert)

last_of-labels : (alerts : List Alert) (alert : Alert) → (last_of alerts alert).labels ≡ alert.labels
last_of-labels alerts alert = lasting-labels (map Take alerts) alert (last_of alerts alert) (lasting-takes alerts alert)

last-others : (first : Alert) (alerts others : List Alert) → map (last_of (first ∷ alerts)) (without first.labels others) ≡ without first.labels (map (last_of alerts) others)
last-others first alerts [] = refl
last-others first alerts (other ∷ others) = let rest = last-others first alerts others in grind (arith, same_turned, last_of-labels)

pub kept_without_sweeps : (given : List Alert) → kept_alerts (map Take given) ≡ last_alerts given
kept_without_sweeps [] = refl
kept_without_sweeps (alert ∷ given) =
    let last = last_of given alert in
    let first : last ≡ last_of (alert ∷ given) alert = grind arith in
    ap (λ o. before_others o (kept_alerts (map Take given))) (lasting-takes given alert)
    ∙ (ap (before_others (Some last)) (kept_without_sweeps given)
    ∙ (ap (λ l. last ∷ without l (last_alerts given)) (last_of-labels given alert)
    ∙ (ap (λ l. last ∷ l) (sym (last-others alert given (first_alerts given)))
    ∙ ap (λ a. a ∷ map (last_of (alert ∷ given)) (without alert.labels (first_alerts given))) first)))

pub last_alerts-push : (alerts : List Alert) (next : Alert) → last_alerts (alerts ++ next ∷ []) ≡ with_last_alert next (last_alerts alerts)
last_alerts-push alerts next =
    sym (kept_without_sweeps (alerts ++ next ∷ []))
    ∙ (ap kept_alerts (map-append Take alerts (next ∷ [])) ∙ (kept-take (map Take alerts) next ∙ ap (with_last_alert next) (kept_without_sweeps alerts)))

pub last_alerts_apart : (alerts : List Alert) → AreApart (last_alerts alerts)
last_alerts_apart alerts = subst AreApart (kept_without_sweeps alerts) (kept_apart (map Take alerts))

last_of-own : (alerts : List Alert) (alert : Alert) → has alert.labels alerts ≡ false → last_of alerts alert ≡ alert
last_of-own [] alert none = refl
last_of-own (next ∷ alerts) alert none = let rest = last_of-own alerts alert in grind arith

-- alerts of which no two are of one label set
pub last_alerts-apart : (alerts : List Alert) → AreApart alerts → last_alerts alerts ≡ alerts
last_alerts-apart [] apart = refl
last_alerts-apart (alert ∷ alerts) apart =
    sym (kept_without_sweeps (alert ∷ alerts))
    ∙ (ap (λ o. before_others o (kept_alerts (map Take alerts))) (lasting-takes alerts alert ∙ ap Some (last_of-own alerts alert apart.0))
    ∙ (ap (before_others (Some alert)) (kept_without_sweeps alerts ∙ last_alerts-apart alerts apart.1) ∙ ap (λ l. alert ∷ l) (without-none alert.labels alerts apart.0)))

pub last_alerts-distinct : (alerts : List Alert) → IsDistinct same_labels (label_sets alerts) → last_alerts alerts ≡ alerts
last_alerts-distinct alerts distinct = last_alerts-apart alerts (apart_distinct alerts distinct)

-- one alert more
pub with_last_alert-last : (alerts : List Alert) (next : Alert) → IsDistinct same_labels (label_sets alerts) → with_last_alert next alerts ≡ last_alerts (alerts ++ next ∷ [])
with_last_alert-last alerts next distinct = ap (with_last_alert next) (sym (last_alerts-distinct alerts distinct)) ∙ sym (last_alerts-push alerts next)

pub last_alerts-twice : (alerts : List Alert) → last_alerts (last_alerts alerts) ≡ last_alerts alerts
last_alerts-twice alerts = last_alerts-apart (last_alerts alerts) (last_alerts_apart alerts)

pub kept_goes_on : (events : List InhibitorEvent) (next : Alert) → kept_alerts (events ++ Take next ∷ []) ≡ last_alerts (kept_alerts events ++ next ∷ [])
kept_goes_on events next = grind (arith, kept-take, last_alerts-push, last_alerts-apart, kept_apart)
