use Rattle.std.proofs.Common.{◌≡◌, take}
use Rattle.am_matchers.proofs.matchers.Matchers.prepare.Given as goal

abbrev pub invariant-loop-matcher : goal.invariant-loop-matcher
invariant-loop-matcher l = l.matchers.items ≡ take l.matcher-index l.matcher-items
