use Rattle.std.proofs.Common.{◌≡◌, ◌≤◌, false, List, [], ◌∷◌, length, arith}
use Rattle.std.proofs.lemmas.Grind.{common_steps}
use Rattle.am_matchers.specs.Matchers.{MatcherView}
use Rattle.am_routes.specs.inside.ChildIndexes.{is_nil, other_matchers}
use Rattle.am_routes.proofs.child_entry.has_no_others.Goals as goal

many : (matchers : List MatcherView) → 2 ≤ length matchers → false ≡ is_nil (other_matchers matchers)
many [] long = absurd (omega arith)
many (one ∷ []) long = absurd (omega arith)
many (one ∷ other ∷ matchers) long = grind (arith, common_steps)

pub returns-in_default : goal.returns-in_default
returns-in_default c = many c.args.matchers.now (omega arith)
