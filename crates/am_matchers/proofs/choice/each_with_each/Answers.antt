use Rattle.std.proofs.Common.{arith}
use Rattle.std.proofs.lemmas.Grind.{common_steps}
use Rattle.am_matchers.proofs.MatcherMeaning.Choices.{crossed_more, one_more}
use Rattle.am_matchers.proofs.choice.each_with_each.Goals as goal

pub loop-first-preserved : goal.loop-first-preserved
loop-first-preserved c = grind (arith, common_steps, one_more, crossed_more)
