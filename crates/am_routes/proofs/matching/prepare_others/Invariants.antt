use Rattle.std.proofs.Common.{◌≡◌, ◌++◌, cond, drop}
use Rattle.am_routes.specs.inside.ChildIndexes.{other_matchers}
use Rattle.am_routes.proofs.matching.prepare_others.Given as goal

-- what is kept so far, with what is kept of the matchers that are left, is all that is kept
abbrev pub invariant-loop-matcher : goal.invariant-loop-matcher
invariant-loop-matcher l =
    l.others.items ++ cond l.is_passed (drop l.matcher-index l.matcher-items) (other_matchers (drop l.matcher-index l.matcher-items))
    ≡ other_matchers l.matchers
