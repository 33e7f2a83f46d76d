use Rattle.std.proofs.Common.{◌≡◌, drop}
use Rattle.am_routes.specs.Looking.{first_equality}
use Rattle.am_routes.proofs.name_index.first_equality.Given as goal

-- the first among the matchers that are left is the answer
abbrev pub invariant-loop-matcher : goal.invariant-loop-matcher
invariant-loop-matcher l = first_equality (drop l.matcher-index l.matchers) ≡ first_equality l.matchers
