use Rattle.std.proofs.Common.{vec_len}
use Rattle.sinnoraku.proofs.crew_threads.+run_from.Given as goal

-- a caller less is left
abbrev pub decreases-run_from : goal.decreases-run_from
decreases-run_from g l = vec_len l.callers
