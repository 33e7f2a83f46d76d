use Rattle.std.proofs.Common.{arith}
use Rattle.std.proofs.lemmas.Grind.{common_steps}
use Rattle.std.proofs.lemmas.Result.{err_from_is_err_and}
use Rattle.am_config.proofs.Configs.{some_of, none_of, no_object, timeout_refused, root_refused, rules_refused, config_read}
use Rattle.am_config.proofs.config.Config.from_value.Goals as goal

pub returns-then-not-is_object : goal.returns-then-not-is_object
returns-then-not-is_object c = grind (arith, common_steps, none_of, no_object)

pub returns-in_err-resolve_timeout : goal.returns-in_err-resolve_timeout
returns-in_err-resolve_timeout c = grind (arith, common_steps, err_from_is_err_and, some_of, timeout_refused)

pub returns-in_err-root : goal.returns-in_err-root
returns-in_err-root c = grind (arith, common_steps, err_from_is_err_and, some_of, root_refused)

pub returns-in_err-rules : goal.returns-in_err-rules
returns-in_err-rules c = grind (arith, common_steps, err_from_is_err_and, some_of, rules_refused)

pub returns : goal.returns
returns c = grind (arith, common_steps, some_of, config_read)
