use Rattle.std.proofs.Common.{◌≡◌, ◌≤◌, [], filter, length, sym, ap, ◌∙◌, arith}
use Rattle.std.proofs.lemmas.Grind.{common_steps}
use Rattle.std.specs.List.{find, slice_get}
use Rattle.std.specs.Option.{option_and_then}
use Rattle.std.proofs.lemmas.List.{length-map}
use Rattle.am_alert.specs.declared.alert.Alert.{Alert}
use Rattle.am_inhibit.specs.LastAlerts.{label_sets}
use Rattle.am_inhibit.specs.Muting.{count_to, inhibits, is_candidate}
use Rattle.am_inhibit.specs.inside.Indexes.{values_of, sources_from}
use Rattle.am_inhibit.proofs.Searching.{listed_are, Target, none_candidates, found-all, looked-all, all_within}
use Rattle.am_inhibit.proofs.source_index.SourceIndex.find.Goals as goal

no_target : (c : goal.Then-not-admits) → filter (is_candidate c.args.self.now.rule c.args.labels.now) c.args.alerts.now ≡ []
no_target c = grind (arith, common_steps, none_candidates)

pub returns-then-not-admits-clause-at : goal.returns-then-not-admits-clause-at
returns-then-not-admits-clause-at c = sym (ap (find (inhibits c.args.self.now.rule c.args.labels.now c.args.now)) (no_target c))

pub returns-then-not-admits-clause-looked : goal.returns-then-not-admits-clause-looked
returns-then-not-admits-clause-looked c = sym (ap (count_to (inhibits c.args.self.now.rule c.args.labels.now c.args.now)) (no_target c))

-- the sources that were found
sources_are : (c : goal.In-Some) → c.in-Some.sources.now ≡ sources_from c.args.self.now.rule (values_of c.args.self.now.rule.equal c.args.labels.now) 0 (label_sets c.args.alerts.now)
sources_are c = grind (arith, common_steps, listed_are)

pub first_muting-requires : goal.first_muting-requires
first_muting-requires c =
    let rule = c.args.self.now.rule in
    let sets = label_sets c.args.alerts.now in
    let long : length sets ≤ length c.args.alerts.now = omega (arith, length-map c.args.alerts.now (λ (alert : Alert). alert.labels)) in
    rw (sources_are c) (all_within rule (values_of rule.equal c.args.labels.now) sets (length c.args.alerts.now) long)

sources_found : (c : goal.After-drop-values-inside) → c.in-Some.sources.now ≡ sources_from c.args.self.now.rule (values_of c.args.self.now.rule.equal c.args.labels.now) 0 (label_sets c.args.alerts.now)
sources_found c = grind (arith, common_steps, listed_are)

target_found : (c : goal.After-drop-values-inside) → Target c.args.self.now.rule c.args.labels.now c.admits-is_source.result
target_found c = grind (arith, common_steps)

pub returns-in-Some-clause-at : goal.returns-in-Some-clause-at
returns-in-Some-clause-at c =
    let alerts = c.args.alerts.now in
    ap (option_and_then (slice_get alerts)) (rw (sources_found c) at c.first_muting.ensures.at)
    ∙ found-all c.args.self.now.rule c.args.labels.now c.admits-is_source.result c.args.now alerts (target_found c)

pub returns-in-Some-clause-looked : goal.returns-in-Some-clause-looked
returns-in-Some-clause-looked c =
    (rw (sources_found c) at c.first_muting.ensures.looked)
    ∙ looked-all c.args.self.now.rule c.args.labels.now c.admits-is_source.result c.args.now c.args.alerts.now (target_found c)

sources_missing : (c : goal.After-drop-values-inside-2) → [] ≡ sources_from c.args.self.now.rule (values_of c.args.self.now.rule.equal c.args.labels.now) 0 (label_sets c.args.alerts.now)
sources_missing c = grind (arith, common_steps, listed_are)

target_missing : (c : goal.After-drop-values-inside-2) → Target c.args.self.now.rule c.args.labels.now c.admits-is_source.result
target_missing c = grind (arith, common_steps)

pub returns-clause-at : goal.returns-clause-at
returns-clause-at c = grind (arith, common_steps, sources_missing, target_missing, found-all)

pub returns-clause-looked : goal.returns-clause-looked
returns-clause-looked c = grind (arith, common_steps, sources_missing, target_missing, looked-all)
