use Rattle.std.proofs.Common.{arith}
use Rattle.std.proofs.lemmas.Grind.{common_steps}
use Rattle.am_config.proofs.Durations.{number_so_far, next_digit}
use Rattle.am_config.proofs.duration.number_of.Goals as goal

pub returns-in_err-checked_mul : goal.returns-in_err-checked_mul
returns-in_err-checked_mul c = grind (arith, common_steps, number_so_far)

pub returns-in_err-number : goal.returns-in_err-number
returns-in_err-number c = grind (arith, common_steps, number_so_far, next_digit)
