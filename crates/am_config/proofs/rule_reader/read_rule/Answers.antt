use Rattle.std.proofs.Common.{◌∙◌, Err, ap, sym, subst, arith}
use Rattle.std.proofs.lemmas.Grind.{common_steps}
use Rattle.std.proofs.lemmas.Result.{err_from_is_err_and}
use Rattle.serde_json.specs.View.{view}
use Rattle.am_config.specs.Readings.{AllowsResult}
use Rattle.am_config.specs.RuleReadings.{rule_of}
use Rattle.am_config.proofs.RuleReadings.{form_refused, source_refused, target_refused, equal_refused, rule_read}
use Rattle.am_config.proofs.rule_reader.read_rule.Goals as goal

pub returns-in_err-check_form : goal.returns-in_err-check_form
returns-in_err-check_form c = grind (arith, common_steps, err_from_is_err_and, form_refused)

pub returns-in_err-source : goal.returns-in_err-source
returns-in_err-source c = grind (arith, common_steps, err_from_is_err_and, source_refused)

pub returns-in_err-target : goal.returns-in_err-target
returns-in_err-target c =
    let p = err_from_is_err_and c.from_residual-in_err-target.result c.from_residual-in_err-target.ensures.1 in
    subst (λ r. AllowsResult (rule_of c.args.at.now (view c.args.value.now)) r) (sym (p.1 ∙ ap Err p.2))
    (target_refused c.args.at.now (view c.args.value.now) _ c.in_ok-check_form.ensures c.in_ok-source.source c.in_ok-source.ensures
    c.in_err-target.field-0.0 c.in_err-target.ensures)

pub returns-in_err-equal : goal.returns-in_err-equal
returns-in_err-equal c =
    let p = err_from_is_err_and c.from_residual-in_err-equal.result c.from_residual-in_err-equal.ensures.1 in
    subst (λ r. AllowsResult (rule_of c.args.at.now (view c.args.value.now)) r) (sym (p.1 ∙ ap Err p.2))
    (equal_refused c.args.at.now (view c.args.value.now) _ c.in_ok-check_form.ensures c.in_ok-source.source c.in_ok-source.ensures
    c.in_ok-target.target c.in_ok-target.ensures c.in_err-equal.field-0.0 c.in_err-equal.ensures)

pub returns : goal.returns
returns c = grind (arith, common_steps, rule_read)
