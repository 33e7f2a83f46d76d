use Rattle.std.proofs.Common.{arith}
use Rattle.std.proofs.lemmas.Grind.{common_steps}
use Rattle.std.proofs.lemmas.Result.{err_from_is_err_and}
use Rattle.am_config.proofs.Configs.{text_refused, text_read}
use Rattle.am_config.proofs.timeout.read_timeout.Goals as goal

pub returns-in_err-text : goal.returns-in_err-text
returns-in_err-text c = grind (arith, common_steps, err_from_is_err_and, text_refused)

pub returns-in_default : goal.returns-in_default
returns-in_default c = grind (arith, common_steps, text_read)

pub returns-in-Some-read_duration : goal.returns-in-Some-read_duration
returns-in-Some-read_duration c = grind (arith, common_steps, text_read)

pub returns-in-None : goal.returns-in-None
returns-in-None c = grind (arith, common_steps, text_read)
