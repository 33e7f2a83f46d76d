use Rattle.std.proofs.Common.{arith}
use Rattle.std.proofs.lemmas.Grind.{common_steps}
use Rattle.std.proofs.lemmas.Result.{err_from_is_err_and}
use Rattle.am_config.proofs.RuleReadings.{texts_refused, matchers_read}
use Rattle.am_config.proofs.rule_reader.matchers_member.Goals as goal

pub returns-in_err-texts : goal.returns-in_err-texts
returns-in_err-texts c = grind (arith, common_steps, err_from_is_err_and, texts_refused)

pub returns : goal.returns
returns c = grind (arith, common_steps, matchers_read)
