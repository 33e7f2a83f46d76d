use Rattle.std.proofs.Common.{◌≡◌, ◌<◌, ℕ, false, get_or}
use Rattle.std.specs.Str.{bytes_eq}
use Rattle.am_runner.specs.declared.live.standing.StandingRead.{StandingRead}
use Rattle.am_runner.proofs.live.standing.index_of_read.Given as goal

-- none of those so far has the name
abbrev pub invariant-loop-index : goal.invariant-loop-index
invariant-loop-index l = (k : ℕ) (other : StandingRead) → k < l.index → bytes_eq (get_or l.reads k other).name l.name ≡ false
