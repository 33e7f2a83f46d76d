use Rattle.std.proofs.Common.{◌≡◌, map}
use Rattle.am_answers.specs.declared.answer.Answer.TheVariants.{Matched}
use Rattle.am_answers.proofs.routes.matched_answers.Given as goal

-- the routes so far
abbrev pub invariant-loop-route : goal.invariant-loop-route
invariant-loop-route l = l.answers.items ≡ map Matched l.yielded
