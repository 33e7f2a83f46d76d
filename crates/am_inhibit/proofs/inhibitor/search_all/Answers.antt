use Rattle.std.proofs.Common.{◌≡◌, ℕ, ◌+◌, ◌<◌, min, ◌++◌, List, None, Some, length, drop, set, get_or, sym, ap, subst, ◌∙◌, arith}
use Rattle.std.proofs.lemmas.Grind.{common_steps}
use Rattle.std.specs.Prelude.{IfSome}
use Rattle.std.specs.List.{find, slice_get}
use Rattle.std.specs.Option.{option_map, option_and_then}
use Rattle.std.proofs.lemmas.List.{drop_more, set-get_or}
use Rattle.am_alert.specs.declared.alert.Alert.{Alert}
use Rattle.am_labels.specs.LabelSets.{Labels}
use Rattle.am_inhibit.specs.Muting.{Candidate, candidate_inhibits, count_to, rule_candidates}
use Rattle.am_inhibit.specs.inside.Indexes.{IndexView, rules_indexed}
use Rattle.am_inhibit.specs.inside.Searches.{candidates_from}
use Rattle.am_inhibit.proofs.Counting.{count_to-found, count_to-past}
use Rattle.am_inhibit.proofs.RuleSearch.{IsFound, candidate_of, rule-none, rule-some, rule-count, find-first, find-later, got_within, label_set_at}
use Rattle.am_inhibit.proofs.inhibitor.search_all.Goals as goal

same_set : (olds indexes : List IndexView) (at : ℕ) (index new : IndexView) → indexes ≡ olds → new ≡ get_or indexes at index → set indexes at new ≡ olds
same_set olds indexes at index new same is = ap (set indexes at) is ∙ (set-get_or indexes at index ∙ same)

split_at : (olds indexes : List IndexView) (labels : Labels) (alerts : List Alert) (at : ℕ) (index : IndexView) → indexes ≡ olds → at < length olds
    → candidates_from at labels alerts (rules_indexed (drop at olds)) ≡ rule_candidates labels alerts (at, (get_or indexes at index).rule) ++ candidates_from (at + 1) labels alerts (rules_indexed (drop (at + 1) olds))
split_at olds indexes labels alerts at index same early = grind (arith, common_steps, drop_more)

is_found : (c : goal.In-Some) → IsFound c.args.labels.now c.args.now c.args.alerts.now (get_or c.loop-rule.indexes c.loop-rule.rule c.index-indexes-rule.result).rule (Some c.in-Some.at) c.in_ok-found.found.looked
is_found c = grind (arith, common_steps)

first_is : (c : goal.In-Some) → (alert : Alert) × (slice_get c.args.alerts.now c.in-Some.at ≡ Some alert)
first_is c =
    let within : IfSome (Some c.in-Some.at) (λ at. at < length c.args.alerts.now) = subst (λ o. IfSome o (λ at. at < length c.args.alerts.now)) c.in-Some.is c.in_ok-found.ensures.within in
    got_within c.args.alerts.now c.in-Some.at within

pub returns-in-Some-clause-muting : goal.returns-in-Some-clause-muting
returns-in-Some-clause-muting c =
    let labels = c.args.labels.now in
    let alerts = c.args.alerts.now in
    let at = c.loop-rule.rule in
    let rule = (get_or c.loop-rule.indexes at c.index-indexes-rule.result).rule in
    let test = candidate_inhibits labels c.args.now in
    let later = candidates_from (at + 1) labels alerts (rules_indexed (drop (at + 1) c.args.indexes.now)) in
    let first = first_is c in
    let here = rule-some labels c.args.now at alerts rule c.in-Some.at c.in_ok-found.found.looked first.0 (is_found c) first.1 in
    let all = c.loop-rule.invariant.found
    ∙ (ap (find test) (split_at c.args.indexes.now c.loop-rule.indexes labels alerts at c.index-indexes-rule.result c.loop-rule.invariant.same c.loop-rule-test.true)
    ∙ find-first test (rule_candidates labels alerts (at, rule)) later (candidate_of at rule first.0) here) in (
      first.0.labels,
      label_set_at alerts c.in-Some.at first.0 first.1,
      ap (option_map {U = ℕ × Labels} (λ (candidate : Candidate). (candidate.number, candidate.alert.labels))) all,
    )

at_most : (a b m : ℕ) → min (min a m + b) m ≡ min (a + b) m
at_most a b m = omega arith

pub returns-in-Some-clause-looked : goal.returns-in-Some-clause-looked
returns-in-Some-clause-looked c =
    let labels = c.args.labels.now in
    let alerts = c.args.alerts.now in
    let at = c.loop-rule.rule in
    let rule = (get_or c.loop-rule.indexes at c.index-indexes-rule.result).rule in
    let test = candidate_inhibits labels c.args.now in
    let later = candidates_from (at + 1) labels alerts (rules_indexed (drop (at + 1) c.args.indexes.now)) in
    let first = first_is c in
    let here = rule-some labels c.args.now at alerts rule c.in-Some.at c.in_ok-found.found.looked first.0 (is_found c) first.1 in
    let count : count_to test (candidates_from at labels alerts (rules_indexed (drop at c.args.indexes.now))) ≡ c.in_ok-found.found.looked =
    ap (count_to test) (split_at c.args.indexes.now c.loop-rule.indexes labels alerts at c.index-indexes-rule.result c.loop-rule.invariant.same c.loop-rule-test.true)
    ∙ (count_to-found test (rule_candidates labels alerts (at, rule)) later (candidate_of at rule first.0) here
    ∙ rule-count labels c.args.now at alerts rule (Some c.in-Some.at) c.in_ok-found.found.looked (is_found c)) in
    grind (arith, common_steps)

pub loop-rule-preserved : goal.loop-rule-preserved
loop-rule-preserved c =
    let labels = c.args.labels.now in
    let alerts = c.args.alerts.now in
    let olds = c.args.indexes.now in
    let at = c.loop-rule.rule in
    let rule = (get_or c.loop-rule.indexes at c.index-indexes-rule.result).rule in
    let test = candidate_inhibits labels c.args.now in
    let later = candidates_from (at + 1) labels alerts (rules_indexed (drop (at + 1) olds)) in
    let looked = c.in_ok-found.found.looked in
    let is : IsFound labels c.args.now alerts rule None looked = record {
      found = ap (option_and_then (slice_get alerts)) (sym c.in_default.is) ∙ c.in_ok-found.ensures.at;
      count = c.in_ok-found.ensures.looked;
    } in
    let split = split_at olds c.loop-rule.indexes labels alerts at c.index-indexes-rule.result c.loop-rule.invariant.same c.loop-rule-test.true in
    let none = rule-none labels c.args.now at alerts rule looked is in
    let count : count_to test (candidates_from at labels alerts (rules_indexed (drop at olds))) ≡ looked + count_to test later =
    ap (count_to test) split
    ∙ (count_to-past test (rule_candidates labels alerts (at, rule)) later none
    ∙ ap (λ n. n + count_to test later) (rule-count labels c.args.now at alerts rule None looked is)) in
    grind (arith, common_steps, same_set, find-later, at_most)
