use Rattle.std.proofs.Common.{◌∙◌, ◌≤◌, Err, ap, sym, subst, length, arith}
use Rattle.std.proofs.lemmas.Result.{err_from_is_err_and}
use Rattle.serde_json.specs.View.{items_view}
use Rattle.am_config.specs.Readings.{AllowsResult}
use Rattle.am_config.specs.RuleReadings.{rule_of, rules_from}
use Rattle.am_config.proofs.ArrayReadings.{item_read, item_refused, items_read}
use Rattle.am_config.proofs.rule_reader.rules_from.Goals as goal

pub returns-in_err-read_rule : goal.returns-in_err-read_rule
unfolding rules_from
returns-in_err-read_rule c =
    let p = err_from_is_err_and c.from_residual-in_err-read_rule.result c.from_residual-in_err-read_rule.ensures.1 in
    subst (λ r. AllowsResult (rules_from c.args.path.now (items_view c.args.items.now)) r) (sym (p.1 ∙ ap Err p.2))
    (item_refused rule_of c.args.path.now c.args.items.now c.loop-i.rules.items c.loop-i.i c.index-items-i.result _
    c.in_ok-item.field-0 c.loop-i-test.true c.index-items-i.is c.in_ok-item.ensures c.in_err-read_rule.field-0.0 c.in_err-read_rule.ensures c.loop-i.invariant)

pub loop-i-preserved : goal.loop-i-preserved
loop-i-preserved c =
    item_read rule_of c.args.path.now c.args.items.now c.loop-i.rules.items c.loop-i.i c.index-items-i.result _
    c.in_ok-item.field-0 c.loop-i-test.true c.index-items-i.is c.in_ok-item.ensures _ c.in_ok-read_rule.field-0 c.in_ok-read_rule.ensures c.in_ok-push.ensures.items c.loop-i.invariant

pub returns : goal.returns
unfolding rules_from
returns c =
    let past : length c.args.items.now ≤ c.loop-i.i = omega arith in
    items_read rule_of c.args.path.now c.args.items.now c.loop-i.rules.items c.loop-i.i past c.loop-i.invariant
