use Rattle.std.proofs.Common.{◌≡◌, ◌<◌, ℕ, false, get_or}
use Rattle.std.specs.Str.{bytes_eq}
use Rattle.am_runner.specs.Reading.{OpenView}
use Rattle.am_runner.proofs.session.index_named.Given as goal

-- none of those so far has the name
abbrev pub invariant-loop-index : goal.invariant-loop-index
invariant-loop-index g l = (k : ℕ) (other : OpenView) → k < l.index → bytes_eq (get_or l.opened k other).name l.name ≡ false
