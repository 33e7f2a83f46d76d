use Rattle.std.proofs.Common.{◌≡◌, ◌<◌, ◌++◌, ◌∷◌, [], List, Some, None, ap, length, refl, subst, sym, arith, rules}
use Rattle.json.specs.Json.{after_end_array, items, value}
use Rattle.json.specs.Token.{Token}
use Rattle.serde_json.specs.Data.{Items, item, no_items}
use Rattle.am_alert.specs.declared.alert.Alert.{Alert}
use Rattle.am_posts.specs.inside.Streams.{IsWholeAlertOf}
use Rattle.am_posts.proofs.Streams.{Alerts-so-far, all_alerts, no_alert_yet, one_more_alert}
use Rattle.am_posts.proofs.Tokens.{all_items, no_item_yet, one_more_item}
use Rattle.am_posts.proofs.unjudged_alert.read_alerts.Goals as goal

pub alerts-init : goal.alerts-init
alerts-init c =
    let p = value c.args.depth in
    let none : c.in_ok-alerts.alerts.items ≡ [] = search rules in (
      λ (rest : Items). rest,
      no_item_yet p (items p (length c.args.reader.now) c.args.reader.now) c.args.reader.now refl,
      subst (λ (alerts : List Alert). Alerts-so-far (λ rest. rest) alerts) (sym none) no_alert_yet,
      omega arith,
    )

pub alerts-preserved : goal.alerts-preserved
alerts-preserved c =
    let l = c.alerts in
    let p = value c.args.depth in
    let all = items p (length c.args.reader.now) c.args.reader.now in
    let values = l.invariant.0 in
    let r = c.read_alert.new.reader in
    let going : (after_end_array l.reader ≡ None) × (c.take_end_array.new.self ≡ l.reader) = grind arith in
    let alert : IsWholeAlertOf c.args.depth c.take_end_array.new.self r c.in-Some.alert = search rules in
    let same = alert.1 in
    let shorter : length r < length c.take_end_array.new.self = search rules in
    let going-on = subst (λ (ts : List Token). p ts ≡ Some (same.0, r)) going.1 same.1 in
    let pushed : c.push.new.self.items ≡ l.alerts.items ++ c.in-Some.alert ∷ [] = search rules in (
      λ (rest : Items). values (item alert.0 rest),
      one_more_item p all l.reader r values same.0 alert.0 l.invariant.1 going.0 going-on same.2 (omega (arith, ap length going.1)),
      subst (λ (alerts : List Alert). Alerts-so-far (λ rest. values (item alert.0 rest)) alerts) (sym pushed) (one_more_alert values l.alerts.items alert.0 c.in-Some.alert l.invariant.2 alert.2),
      omega (arith, ap length going.1),
    )

pub returns-clause-read : goal.returns-clause-read
returns-clause-read c =
    let l = c.alerts in
    let ended : after_end_array l.reader ≡ Some c.take_end_array.new.self = grind arith in
    (l.invariant.0 no_items, all_items c.args.depth c.args.reader.now l.reader c.take_end_array.new.self l.invariant.0 l.invariant.1 ended, all_alerts l.invariant.0 l.alerts.items l.invariant.2)
