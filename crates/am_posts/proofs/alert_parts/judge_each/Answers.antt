use Rattle.std.proofs.Common.{◌≡◌, ◌≤◌, ap, drop, length, Ok, rules}
use Rattle.std.proofs.lemmas.List.{drop_all}
use Rattle.am_posts.specs.FromParts.{elements_from}
use Rattle.am_posts.proofs.FromParts.{all_judged, are_indexed}
use Rattle.am_posts.proofs.alert_parts.judge_each.Goals as goal

pub invariant_of-result : goal.invariant_of-result
invariant_of-result c =
    let valid = c.loop-alert.valid.items in
    let faults = c.loop-alert.faults.items in
    let alerts = c.args.alerts.now in
    let rest = drop c.loop-alert.alert-index alerts in
    let late : length alerts ≤ c.loop-alert.alert-index = search rules in
    let none = ap length (drop_all c.loop-alert.alert-index alerts late) in
    let all : elements_from 0 alerts ≡ Ok (valid, faults) = all_judged c.loop-alert.alert-index rest _ valid faults none c.loop-alert.invariant.1 in
    record { few = search rules; well_formed = c.loop-alert.invariant.2; rising = (are_indexed 0 alerts (valid, faults) all).rising }
