use Rattle.std.proofs.Common.{◌≡◌, map}
use Rattle.am_answers.specs.declared.answer.Answer.TheVariants.{Route}
use Rattle.am_answers.proofs.routes.listed_answers.Given as goal

-- the routes so far
abbrev pub invariant-loop-route : goal.invariant-loop-route
invariant-loop-route l = l.answers.items ≡ map Route l.yielded
