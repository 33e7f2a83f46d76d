use Rattle.std.proofs.Common.{arith}
use Rattle.std.proofs.lemmas.Grind.{common_steps}
use Rattle.am_provider.proofs.Slicing.{run_taken}
use Rattle.am_provider.proofs.subscription.Subscription.next_slice.Goals as goal

pub returns : goal.returns
returns g c = grind (arith, common_steps, run_taken)
