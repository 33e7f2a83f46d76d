use Rattle.am_script.proofs.Inputs.{consumes_kept}
use Rattle.am_script.proofs.input.read_some.Goals as goal

pub returns-in-Ok-clause-read : goal.returns-in-Ok-clause-read
returns-in-Ok-clause-read g c = consumes_kept _ _ _ _ c.loop-try.invariant c.in-Ok.ensures.bytes.0
