use Rattle.std.proofs.Common.{arith}
use Rattle.std.proofs.lemmas.Grind.{common_steps}
use Rattle.am_inhibit.proofs.Indexes.{last_left_out, nothing_left_out}
use Rattle.am_inhibit.proofs.source_index.leave_out.Goals as goal

pub returns-in-Some : goal.returns-in-Some
returns-in-Some c = grind (arith, common_steps, last_left_out)

pub returns-in_default : goal.returns-in_default
returns-in_default c = grind (arith, common_steps, nothing_left_out)
