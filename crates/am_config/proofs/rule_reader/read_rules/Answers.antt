use Rattle.std.proofs.Common.{arith}
use Rattle.std.proofs.lemmas.Grind.{common_steps}
use Rattle.std.proofs.lemmas.Result.{err_from_is_err_and}
use Rattle.am_config.proofs.RuleReadings.{items_refused, rules_read}
use Rattle.am_config.proofs.rule_reader.read_rules.Goals as goal

pub returns-in_err-items : goal.returns-in_err-items
returns-in_err-items c = grind (arith, common_steps, err_from_is_err_and, items_refused)

pub returns : goal.returns
returns c = grind (arith, common_steps, rules_read)
