use Rattle.std.proofs.Common.{◌≡◌, true, take}
use Rattle.am_matchers.specs.Matchers.{all_admitted}
use Rattle.am_matchers.proofs.matchers.Matchers.admits.Given as goal

-- each so far admits
abbrev pub invariant-loop-matcher : goal.invariant-loop-matcher
invariant-loop-matcher l = all_admitted (take l.matcher-index l.matcher-items) l.labels ≡ true
