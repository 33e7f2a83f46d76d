use Rattle.std.proofs.Common.{◌≡◌, ℕ, List, ◌+◌, ◌<◌, Bool, not, ◌&&◌, false, length, drop, get_or, sym, ap, ◌∙◌, arith}
use Rattle.std.proofs.lemmas.Grind.{common_steps}
use Rattle.std.specs.List.{find}
use Rattle.std.specs.Option.{option_map}
use Rattle.std.proofs.lemmas.List.{drop_more}
use Rattle.std.proofs.lemmas.Option.{slice_get_read}
use Rattle.am_alert.specs.declared.alert.Alert.{Alert}
use Rattle.am_alert.specs.Merging.{is_resolved_at}
use Rattle.am_inhibit.specs.declared.source.Source.{Source}
use Rattle.am_inhibit.specs.Muting.{count_to}
use Rattle.am_inhibit.specs.inside.Indexes.{source_inhibits}
use Rattle.am_inhibit.proofs.Counting.{count_to-yes, find-yes, find-no}
use Rattle.am_inhibit.proofs.source_index.first_walked.Goals as goal

-- the answer for the source at an index
tested : (sources : List Source) (is_source : Bool) (alerts : List Alert) (now : ℕ) (at : ℕ) (d : Source) (alert : Alert) (b : Bool)
    → (get_or sources at d).at < length alerts → alert ≡ get_or alerts (get_or sources at d).at alert
    → b ≡ (not (is_resolved_at now alert) && not (is_source && (get_or sources at d).is_target))
    → source_inhibits is_source now alerts (get_or sources at d) ≡ b
tested sources is_source alerts now at d alert b early is answer = grind (arith, common_steps, slice_get_read)

pub returns-then-is_muting-clause-at : goal.returns-then-is_muting-clause-at
returns-then-is_muting-clause-at c =
    let sources = c.args.sources.now in
    let at = c.loop-before.before in
    let d : Source = record { at = 0; is_target = false } in
    let source = get_or sources at d in
    let test = source_inhibits c.args.is_source c.args.now c.args.alerts.now in
    let rest = drop (at + 1) sources in
    let passes = tested sources c.args.is_source c.args.alerts.now c.args.now at d c.index-alerts-source.result c.is_muting.result (c.requires at d c.loop-before-test.true) c.index-alerts-source.is c.is_muting.ensures ∙ c.if-is_muting.true in
    sym (ap (option_map (λ (s : Source). s.at)) (c.loop-before.invariant.found ∙ (ap (find test) (drop_more sources at d c.loop-before-test.true) ∙ find-yes test source rest passes)))

pub returns-then-is_muting-clause-looked : goal.returns-then-is_muting-clause-looked
returns-then-is_muting-clause-looked c =
    let sources = c.args.sources.now in
    let at = c.loop-before.before in
    let d : Source = record { at = 0; is_target = false } in
    let source = get_or sources at d in
    let test = source_inhibits c.args.is_source c.args.now c.args.alerts.now in
    let rest = drop (at + 1) sources in
    let passes = tested sources c.args.is_source c.args.alerts.now c.args.now at d c.index-alerts-source.result c.is_muting.result (c.requires at d c.loop-before-test.true) c.index-alerts-source.is c.is_muting.ensures ∙ c.if-is_muting.true in
    sym (c.loop-before.invariant.looked ∙ ap (λ n. at + n) (ap (count_to test) (drop_more sources at d c.loop-before-test.true) ∙ count_to-yes test source rest passes))

pub loop-before-preserved : goal.loop-before-preserved
loop-before-preserved c =
    let sources = c.args.sources.now in
    let at = c.loop-before.before in
    let d : Source = record { at = 0; is_target = false } in
    let fails = tested sources c.args.is_source c.args.alerts.now c.args.now at d c.index-alerts-source.result c.is_muting.result (c.requires at d c.loop-before-test.true) c.index-alerts-source.is c.is_muting.ensures ∙ c.if-is_muting.false in
    grind (arith, common_steps, find-no)
