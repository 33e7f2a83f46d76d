use Rattle.std.proofs.Common.{◌≡◌, ◌<◌, ◌≤◌, ◌/◌, ◌%◌, ◌-◌, List, ap, sym, ◌∙◌, arith, drop, get_or, length, rules, take}
use Rattle.std.specs.Arc.{arc_value}
use Rattle.am_alert.specs.declared.alert.Alert.{Alert}
use Rattle.am_store.specs.declared.shared_alerts.TheConstants.{BLOCK, GROUP}
use Rattle.am_store.specs.inside.Blocks.{all_of}
use Rattle.am_store.proofs.Blocks.{run_of_group, run_missing}
use Rattle.am_store.proofs.shared_alerts.StoredAlerts.run_from.Goals as goal

pub returns-in-Some : goal.returns-in-Some
returns-in-Some c =
    let from = c.args.from in
    let groups = (arc_value c.self.inside.groups).items in
    let view : c.args.self.now ≡ all_of groups = search rules in
    let within : from / GROUP < length groups = search rules in
    let got : c.in-Some.group.now ≡ get_or groups (from / GROUP) c.in-Some.group.now = search rules in
    c.run_from.ensures ∙ (run_of_group _ groups from c.in-Some.group.now c.self.invariant.0 within got ∙ ap (λ alerts. take (BLOCK - from % BLOCK) (drop from alerts)) (sym view))

pub returns-in-None : goal.returns-in-None
returns-in-None c =
    let from = c.args.from in
    let groups = (arc_value c.self.inside.groups).items in
    let view : c.args.self.now ≡ all_of groups = search rules in
    let past : length groups ≤ from / GROUP = search rules in
    run_missing GROUP (λ (group : List Alert). group) (all_of groups) groups from (BLOCK - from % BLOCK) c.self.invariant.0 (omega (arith, past)) ∙ ap (λ alerts. take (BLOCK - from % BLOCK) (drop from alerts)) (sym view)
