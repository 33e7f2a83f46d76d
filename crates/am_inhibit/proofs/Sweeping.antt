-- What a sweep leaves of the answers.
use Rattle.std.proofs.Common.{◌≡◌, ◌⊎◌, inl, inr, ℕ, ◌+◌, ◌≤◌, Bool, true, false, not, ◌&&◌, ◌||◌, cond, List, [], ◌∷◌, ◌++◌, map, filter, fold, Option, Some, None, append_assoc, append-nil, refl, sym, ap, subst, ◌∙◌, arith}
use Rattle.std.specs.List.{find, flat_map, enumerate_from, list_any, All, AllByRecursion}
use Rattle.std.specs.Option.{option_map, option_map_or, option_and_then, option_or}
use Rattle.std.proofs.lemmas.Bool.{true≢false}
use Rattle.std.proofs.lemmas.List.Elements.{filter-append, filter_passes}
use Rattle.std.proofs.lemmas.List.Folds.{find-append}
use Rattle.am_labels.specs.LabelSets.{Labels, same_labels}
use Rattle.am_labels.specs.LabelLaws.{labels_decide, labels_equiv}
use Rattle.am_alert.specs.declared.alert.Alert.{Alert}
use Rattle.am_alert.specs.Merging.{is_resolved_at, unless_resolved, unresolved}
use Rattle.am_config.specs.declared.inhibit_rule.InhibitRule.{InhibitRule}
use Rattle.am_keyed.specs.Keyed.{with_last_alert}
use Rattle.am_inhibit.specs.LastAlerts.{last_alerts}
use Rattle.am_inhibit.specs.KeptAlerts.{InhibitorEvent, Take, Sweep, kept_alerts, after_event, takes_removed}
use Rattle.am_inhibit.specs.Muting.{is_candidate, inhibits, Candidate, rule_candidates, candidates, candidate_inhibits, candidates_seen, count_to, muted}
use Rattle.am_inhibit.proofs.Cases.{by_bool}
use Rattle.am_inhibit.proofs.LastAlerts.{has, AreApart, same_turned}
use Rattle.am_inhibit.proofs.KeptAlerts.{alert_of, last_alerts-apart, kept_is_held, kept_apart, kept-take, kept-sweep, filters_commute}
use Rattle.am_inhibit.proofs.RuleSearch.{candidate_of}

not_true : (b : Bool) → not b ≡ true → b ≡ false
not_true true e = absurd (let no : false ≡ true = e in (cc))
not_true false e = refl

or_none : (a b : Bool) → (a || b) ≡ false → (a ≡ false) × (b ≡ false)
or_none true b e = absurd (let no : true ≡ false = e in (cc))
or_none false b e = (refl, e)

pub sweep_keeps_none_resolved : (events : List InhibitorEvent) (now : ℕ) → All (λ (alert : Alert). is_resolved_at now alert ≡ false) (kept_alerts (events ++ Sweep now ∷ []))
sweep_keeps_none_resolved events now = grind (arith, kept-sweep, not_true, filter_passes)

-- ---- the candidates

-- those of the alerts that are kept
kept_last : (events : List InhibitorEvent) → last_alerts (kept_alerts events) ≡ kept_alerts events
kept_last events = last_alerts-apart (kept_alerts events) (kept_apart events)

swept_last : (events : List InhibitorEvent) (swept : ℕ) → last_alerts (kept_alerts (events ++ Sweep swept ∷ [])) ≡ unresolved swept (kept_alerts events)
swept_last events swept = kept_last (events ++ Sweep swept ∷ []) ∙ kept-sweep events swept

-- of rules, the first of which has the number
rules_candidates : Labels → List Alert → ℕ → List InhibitRule → List Candidate
rules_candidates labels alerts number rules = flat_map (rule_candidates labels alerts) (enumerate_from number rules)

-- what a test leaves out is resolved
abbrev Ended : ℕ → (Alert → Bool) → List Alert → Type 0
Ended now keep alerts = AllByRecursion (λ (alert : Alert). keep alert ≡ false → is_resolved_at now alert ≡ true) alerts

find-filtered : (labels : Labels) (now number : ℕ) (rule : InhibitRule) (keep : Alert → Bool) (alerts : List Alert) → Ended now keep alerts
    → find (candidate_inhibits labels now) (rule_candidates labels (filter keep alerts) (number, rule)) ≡ find (candidate_inhibits labels now) (rule_candidates labels alerts (number, rule))
find-filtered labels now number rule keep [] ended = refl
find-filtered labels now number rule keep (alert ∷ alerts) ended =
    let rest = find-filtered labels now number rule keep alerts in
    grind arith

find-all : (labels : Labels) (now number : ℕ) (rules : List InhibitRule) (keep : Alert → Bool) (alerts : List Alert) → Ended now keep alerts
    → find (candidate_inhibits labels now) (rules_candidates labels (filter keep alerts) number rules) ≡ find (candidate_inhibits labels now) (rules_candidates labels alerts number rules)
unfolding rules_candidates
find-all labels now number [] keep alerts ended = refl
find-all labels now number (rule ∷ rules) keep alerts ended =
    let rest = find-all labels now (number + 1) rules keep alerts in
    grind (arith, find-append, rules_candidates, find-filtered)

-- ---- as long as nothing that was removed is taken again

-- what the alerts become by one more event
abbrev kept_by : List Alert → InhibitorEvent → List Alert
kept_by alerts (Take alert) = with_last_alert alert alerts
kept_by alerts (Sweep now) = unresolved now alerts

kept_along : (events more : List InhibitorEvent) → kept_alerts (events ++ more) ≡ fold kept_by (kept_alerts events) more
kept_along events [] = ap kept_alerts (append-nil events)
kept_along events (Take alert ∷ more) =
    let rest = kept_along (events ++ Take alert ∷ []) more in
    grind (arith, append_assoc, kept-take)
kept_along events (Sweep now ∷ more) =
    let rest = kept_along (events ++ Sweep now ∷ []) more in
    grind (arith, append_assoc, kept-sweep)

module _ (swept : ℕ) (removed : Labels → Bool) where
  -- whether an alert isn't of a label set that was removed
  abbrev still : Alert → Bool
  still alert = not (removed alert.labels)

  -- an alert of such a label set is resolved
  abbrev AreEnded : List Alert → Type 0
  AreEnded alerts = AllByRecursion (λ (alert : Alert). removed alert.labels ≡ true → is_resolved_at swept alert ≡ true) alerts

  still-set : (next : Alert) (alerts : List Alert) → removed next.labels ≡ false → filter still (with_last_alert next alerts) ≡ with_last_alert next (filter still alerts)
  still-set next [] kept = ap (λ b. cond (not b) (next ∷ []) []) kept
  still-set next (old ∷ olds) kept = let rest = still-set next olds in grind (arith, labels_decide)

  ended-set : (next : Alert) (alerts : List Alert) → removed next.labels ≡ false → AreEnded alerts → AreEnded (with_last_alert next alerts)
  ended-set next [] kept ended = ((λ gone. absurd (true≢false (sym gone ∙ kept))), tt)
  ended-set next (old ∷ olds) kept ended = let rest = ended-set next olds in grind arith

  ended-filter : (test : Alert → Bool) (alerts : List Alert) → AreEnded alerts → AreEnded (filter test alerts)
  ended-filter test [] ended = tt
  ended-filter test (alert ∷ alerts) ended = let rest = ended-filter test alerts in grind arith

  -- what an event takes isn't of such a label set
  abbrev takes_gone : InhibitorEvent → Bool
  takes_gone (Take alert) = removed alert.labels
  takes_gone (Sweep now) = false

  -- further events leave the same alerts of the other label sets, and those of the removed ones resolved
  still_along : (more : List InhibitorEvent) (alerts : List Alert) → list_any takes_gone more ≡ false → AreEnded alerts
      → (fold kept_by (filter still alerts) more ≡ filter still (fold kept_by alerts more)) × AreEnded (fold kept_by alerts more)
  still_along [] alerts none ended = (refl, ended)
  still_along (Take next ∷ more) alerts none ended =
      let rest = still_along more (with_last_alert next alerts) in
      grind (arith, or_none, ended-set, still-set)
  still_along (Sweep now ∷ more) alerts none ended =
      let later = still_along more (unresolved now alerts) none (ended-filter (λ (alert : Alert). not (is_resolved_at now alert)) alerts ended) in
      (ap (λ l. fold kept_by l more) (filters_commute (λ (alert : Alert). not (is_resolved_at now alert)) still alerts) ∙ later.0, later.1)

  ended_for : (now : ℕ) (alerts : List Alert) → swept ≤ now → AreEnded alerts → Ended now still alerts
  ended_for now [] later ended = tt
  ended_for now (alert ∷ alerts) later ended = let rest = ended_for now alerts in grind arith

-- what mutes a target among some alerts
answer_among : List Alert → List InhibitRule → Labels → ℕ → Option (ℕ × Labels)
answer_among alerts rules labels now =
    option_map (λ (candidate : Candidate). (candidate.number, candidate.alert.labels))
    (find (candidate_inhibits labels now) (flat_map (rule_candidates labels alerts) (enumerate_from 0 rules)))

-- the label sets that a sweep removes
abbrev removed_after : ℕ → List Alert → Labels → Bool
removed_after swept alerts labels = option_map_or (is_resolved_at swept) (alert_of labels alerts) false

-- no alert of another list is of its label set
abbrev AreUnlike : Labels → List Alert → Type 0
AreUnlike labels alerts = AllByRecursion (λ (alert : Alert). same_labels alert.labels labels ≡ false) alerts

unlike : (labels : Labels) (alerts : List Alert) → has labels alerts ≡ false → AreUnlike labels alerts
unlike labels [] none = tt
unlike labels (alert ∷ alerts) none = let rest = unlike labels alerts in grind (arith, or_none, has, same_turned)

-- each alert is the one of its label set
abbrev AreFound : List Alert → List Alert → Type 0
AreFound all alerts = AllByRecursion (λ (alert : Alert). alert_of alert.labels all ≡ Some alert) alerts

found_beside : (first : Alert) (all alerts : List Alert) → AreUnlike first.labels alerts → AreFound all alerts → AreFound (first ∷ all) alerts
found_beside first all [] away found = tt
found_beside first all (alert ∷ alerts) away found = let rest = found_beside first all alerts in grind arith

found_all : (alerts : List Alert) → AreApart alerts → AreFound alerts alerts
found_all [] apart = tt
found_all (alert ∷ alerts) apart = let rest = found_all alerts in grind (arith, alert_of, labels_equiv, found_beside, unlike)

module _ (swept : ℕ) (all : List Alert) where
  swept_are : (alerts : List Alert) → AreFound all alerts → unresolved swept alerts ≡ filter (still swept (removed_after swept all)) alerts
  swept_are [] found = refl
  swept_are (alert ∷ alerts) found = let rest = swept_are alerts in grind arith

  swept_ended : (alerts : List Alert) → AreFound all alerts → AreEnded swept (removed_after swept all) alerts
  swept_ended [] found = tt
  swept_ended (alert ∷ alerts) found = ((λ gone. sym (ap (λ o. option_map_or (is_resolved_at swept) o false) found.0) ∙ gone), swept_ended alerts found.1)

takes_are : (swept : ℕ) (events more : List InhibitorEvent) → list_any (takes_removed swept events) more ≡ list_any (takes_gone swept (removed_after swept (kept_alerts events))) more
takes_are swept events [] = refl
takes_are swept events (Take alert ∷ more) = let rest = takes_are swept events more in grind (arith, kept_is_held)
takes_are swept events (Sweep now ∷ more) = takes_are swept events more

pub sweep_keeps_answers : (events more : List InhibitorEvent) (swept now : ℕ) (rules : List InhibitRule) (labels : Labels) → swept ≤ now → list_any (takes_removed swept events) more ≡ false
    → muted (kept_alerts (events ++ Sweep swept ∷ more)) rules labels now ≡ muted (kept_alerts (events ++ more)) rules labels now
unfolding answer_among rules_candidates
sweep_keeps_answers events more swept now rules labels later none =
    let all = kept_alerts events in
    let removed = removed_after swept all in
    let keep = still swept removed in
    let found = found_all all (kept_apart events) in
    let along = still_along swept removed more all (sym (takes_are swept events more) ∙ none) (swept_ended swept all all found) in
    let other : kept_alerts (events ++ more) ≡ fold kept_by all more = kept_along events more in
    let one : kept_alerts (events ++ Sweep swept ∷ more) ≡ filter keep (kept_alerts (events ++ more)) =
    kept_along events (Sweep swept ∷ more)
    ∙ (ap (λ l. fold kept_by l more) (swept_are swept all all found) ∙ (along.0 ∙ ap (filter keep) (sym other))) in
    let ended : Ended now keep (kept_alerts (events ++ more)) = subst (Ended now keep) (sym other) (ended_for swept removed now (fold kept_by all more) later along.1) in
    ap (λ l. answer_among l rules labels now) (kept_last (events ++ Sweep swept ∷ more) ∙ one)
    ∙ (ap (option_map {U = ℕ × Labels} (λ (candidate : Candidate). (candidate.number, candidate.alert.labels))) (find-all labels now 0 rules keep (kept_alerts (events ++ more)) ended)
    ∙ sym (ap (λ l. answer_among l rules labels now) (kept_last (events ++ more))))

-- ---- those that are examined

-- whether a candidate isn't resolved
fires : ℕ → Candidate → Bool
fires swept candidate = not (is_resolved_at swept candidate.alert)

filter-shown : (swept number : ℕ) (rule : InhibitRule) (alerts : List Alert) → map (candidate_of number rule) (unresolved swept alerts) ≡ filter (fires swept) (map (candidate_of number rule) alerts)
unfolding fires
filter-shown swept number rule [] = refl
filter-shown swept number rule (alert ∷ alerts) = let rest = filter-shown swept number rule alerts in grind arith

rule-spared : (labels : Labels) (swept number : ℕ) (rule : InhibitRule) (alerts : List Alert) → rule_candidates labels (unresolved swept alerts) (number, rule) ≡ filter (fires swept) (rule_candidates labels alerts (number, rule))
rule-spared labels swept number rule alerts = grind (arith, candidate_of, filters_commute, filter-shown)

rules-spared : (labels : Labels) (swept number : ℕ) (rules : List InhibitRule) (alerts : List Alert) → rules_candidates labels (unresolved swept alerts) number rules ≡ filter (fires swept) (rules_candidates labels alerts number rules)
unfolding rules_candidates
rules-spared labels swept number [] alerts = refl
rules-spared labels swept number (rule ∷ rules) alerts =
    let rest = rules-spared labels swept (number + 1) rules alerts in
    grind (arith, rules_candidates, rule-spared, filter-append)

pub sweep_spares_resolved : (events : List InhibitorEvent) (swept now : ℕ) (rules : List InhibitRule) (labels : Labels)
    → candidates_seen (kept_alerts (events ++ Sweep swept ∷ [])) rules labels now ≡ count_to (candidate_inhibits labels now) (filter (λ (candidate : Candidate). not (is_resolved_at swept candidate.alert)) (candidates (kept_alerts events) rules labels))
unfolding rules_candidates fires
sweep_spares_resolved events swept now rules labels =
    let test = candidate_inhibits labels now in
    ap (λ l. count_to test (rules_candidates labels l 0 rules)) (swept_last events swept)
    ∙ (ap (count_to test) (rules-spared labels swept 0 rules (kept_alerts events))
    ∙ sym (ap (λ l. count_to test (filter (fires swept) (rules_candidates labels l 0 rules))) (kept_last events)))

-- ---- what comes after a sweep

-- a label set holds the same with a sweep as without it, or nothing in place of an alert that is resolved
Spared : ℕ → Option Alert → Option Alert → Type 0
Spared swept one other = (one ≡ other) ⊎ ((one ≡ None) × (alert : Alert) × (other ≡ Some alert) × (is_resolved_at swept alert ≡ true))

spared_at_first : (swept : ℕ) (held : Option Alert) → Spared swept (option_and_then (unless_resolved swept) held) held
unfolding Spared
spared_at_first swept None = inl refl
spared_at_first swept (Some alert) =
    elim (is_resolved_at swept alert) as (λ b. is_resolved_at swept alert ≡ b → Spared swept (cond b None (Some alert)) (Some alert)) [ true ↦ λ e. inr (refl, alert, refl, e) | false ↦ λ e. inl refl ] refl

spared_once : (labels : Labels) (swept : ℕ) (event : InhibitorEvent) (one other : Option Alert) → Spared swept one other → Spared swept (after_event labels one event) (after_event labels other event)
unfolding Spared
spared_once labels swept event one other (inl same) = inl (ap (λ o. after_event labels o event) same)
spared_once labels swept (Take next) one other (inr gone) =
    elim (same_labels labels next.labels) as (λ b. Spared swept (cond b (Some next) one) (cond b (Some next) other)) [ true ↦ inl refl | false ↦ inr gone ]
spared_once labels swept (Sweep now) one other (inr (none, alert, is, ended)) =
    let after = option_and_then (unless_resolved now) in
    let left = elim (is_resolved_at now alert) as (λ b. Spared swept None (cond b None (Some alert))) [ true ↦ inl refl | false ↦ inr (refl, alert, refl, ended) ] in
    subst (λ o. Spared swept (after one) (after o)) (sym is) (subst (λ o. Spared swept (after o) (after (Some alert))) (sym none) left)

spared_later : (labels : Labels) (swept : ℕ) (more : List InhibitorEvent) (one other : Option Alert) → Spared swept one other → Spared swept (fold (after_event labels) one more) (fold (after_event labels) other more)
spared_later labels swept [] one other spared = spared
spared_later labels swept (event ∷ more) one other spared =
    spared_later labels swept more (after_event labels one event) (after_event labels other event) (spared_once labels swept event one other spared)

held_along : (labels : Labels) (events more : List InhibitorEvent) (held : Option Alert) → fold (after_event labels) held (events ++ more) ≡ fold (after_event labels) (fold (after_event labels) held events) more
held_along labels [] more held = refl
held_along labels (event ∷ events) more held = held_along labels events more (after_event labels held event)

spared_at_last : (labels : Labels) (swept : ℕ) (events more : List InhibitorEvent) → Spared swept (alert_of labels (kept_alerts (events ++ Sweep swept ∷ more))) (alert_of labels (kept_alerts (events ++ more)))
spared_at_last labels swept events more = grind (arith, alert_of, kept_is_held, held_along, spared_later, spared_at_first)

-- ---- whether an alert passes a test

-- an alert that passes, found by its label set
record Passing (test : Alert → Bool) (all : List Alert) : Type 0 where
  alert : Alert
  found : alert_of alert.labels all ≡ Some alert
  passes : test alert ≡ true

passing_of : (test : Alert → Bool) (all alerts : List Alert) → AreFound all alerts → list_any test alerts ≡ true → Passing test all
passing_of test all [] found some = absurd (let no : false ≡ true = some in (cc))
passing_of test all (first ∷ alerts) found some =
    by_bool {P = Passing test all} (test first)
    (λ t. record { alert = first; found = found.0; passes = t })
    (λ f. passing_of test all alerts found.1 (sym (ap (λ b. b || list_any test alerts) f) ∙ some))

any_of : (test : Alert → Bool) (alerts : List Alert) (alert : Alert) → alert_of alert.labels alerts ≡ Some alert → test alert ≡ true → list_any test alerts ≡ true
any_of test [] alert found passes = absurd (cc)
any_of test (first ∷ alerts) alert found passes = let rest = any_of test alerts alert in grind arith

same_tests : (a b : Bool) → (a ≡ true → b ≡ true) → (b ≡ true → a ≡ true) → a ≡ b
same_tests true b to from = sym (to refl)
same_tests false true to from = from refl
same_tests false false to from = refl

-- as many pass with a sweep as without it, where none passes that is resolved
any-spared : (swept : ℕ) (test : Alert → Bool) (events more : List InhibitorEvent) → ((alert : Alert) → test alert ≡ true → is_resolved_at swept alert ≡ false)
    → list_any test (kept_alerts (events ++ Sweep swept ∷ more)) ≡ list_any test (kept_alerts (events ++ more))
unfolding Spared
any-spared swept test events more fire =
    let one = kept_alerts (events ++ Sweep swept ∷ more) in
    let other = kept_alerts (events ++ more) in
    same_tests (list_any test one) (list_any test other)
    (λ some.
    let it = passing_of test one one (found_all one (kept_apart (events ++ Sweep swept ∷ more))) some in
    let spared = spared_at_last it.alert.labels swept events more in
    grind (arith, any_of))
    (λ some.
    let it = passing_of test other other (found_all other (kept_apart (events ++ more))) some in
    let spared = spared_at_last it.alert.labels swept events more in
    grind (arith, any_of))

-- ---- the rule that mutes

-- whether an alert mutes a target by a rule
mutes_by : InhibitRule → Labels → ℕ → Alert → Bool
mutes_by rule labels now alert = is_candidate rule labels alert && inhibits rule labels now alert

number_of : Candidate → ℕ
number_of candidate = candidate.number

rule_number : (labels : Labels) (now number : ℕ) (rule : InhibitRule) (alerts : List Alert)
    → option_map number_of (find (candidate_inhibits labels now) (rule_candidates labels alerts (number, rule))) ≡ cond (list_any (mutes_by rule labels now) alerts) (Some number) None
unfolding mutes_by number_of
rule_number labels now number rule [] = refl
rule_number labels now number rule (alert ∷ alerts) = let rest = rule_number labels now number rule alerts in grind arith

map-or : {A B : Type 0} (f : A → B) (one other : Option A) → option_map f (option_or one other) ≡ option_or (option_map f one) (option_map f other)
map-or f None other = refl
map-or f (Some x) other = refl

fires_by : (rule : InhibitRule) (labels : Labels) (swept now : ℕ) (alert : Alert) → swept ≤ now → mutes_by rule labels now alert ≡ true → is_resolved_at swept alert ≡ false
unfolding mutes_by
fires_by rule labels swept now alert later mutes = grind arith

rules_number : (labels : Labels) (swept now number : ℕ) (rules : List InhibitRule) (events more : List InhibitorEvent) → swept ≤ now
    → option_map number_of (find (candidate_inhibits labels now) (rules_candidates labels (kept_alerts (events ++ Sweep swept ∷ more)) number rules)) ≡ option_map number_of (find (candidate_inhibits labels now) (rules_candidates labels (kept_alerts (events ++ more)) number rules))
unfolding rules_candidates
rules_number labels swept now number [] events more later = refl
rules_number labels swept now number (rule ∷ rules) events more later =
    let rest = rules_number labels swept now (number + 1) rules events more in
    grind (arith, rule_number, any-spared, fires_by, find-append, rules_candidates, map-or)

named : (found : Option Candidate) → option_map (λ (by : ℕ × Labels). by.0) (option_map {U = ℕ × Labels} (λ (candidate : Candidate). (candidate.number, candidate.alert.labels)) found) ≡ option_map number_of found
unfolding number_of
named None = refl
named (Some candidate) = refl

pub sweep_keeps_rules : (events more : List InhibitorEvent) (swept now : ℕ) (rules : List InhibitRule) (labels : Labels) → swept ≤ now
    → option_map (λ (by : ℕ × Labels). by.0) (muted (kept_alerts (events ++ Sweep swept ∷ more)) rules labels now) ≡ option_map (λ (by : ℕ × Labels). by.0) (muted (kept_alerts (events ++ more)) rules labels now)
unfolding answer_among rules_candidates
sweep_keeps_rules events more swept now rules labels later =
    let test = candidate_inhibits labels now in
    let one = kept_alerts (events ++ Sweep swept ∷ more) in
    let other = kept_alerts (events ++ more) in
    let number = λ (l : List Alert). option_map (λ (by : ℕ × Labels). by.0) (answer_among l rules labels now) in
    ap number (kept_last (events ++ Sweep swept ∷ more))
    ∙ (named (find test (rules_candidates labels one 0 rules))
    ∙ (rules_number labels swept now 0 rules events more later
    ∙ (sym (named (find test (rules_candidates labels other 0 rules))) ∙ sym (ap number (kept_last (events ++ more))))))
