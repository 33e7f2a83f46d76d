use Rattle.std.proofs.Common.{◌≡◌, ◌++◌, map}
use Rattle.am_runner.specs.Sessions.{cut_below}
use Rattle.am_answers.specs.declared.answer.Answer.TheVariants.{CutLane}
use Rattle.am_runner.proofs.session.post.add_cut.Given as goal

-- the lanes so far stand
abbrev pub invariant-loop-lane : goal.invariant-loop-lane
invariant-loop-lane l = l.answers.items ≡ l.initial.answers.items ++ map CutLane (cut_below l.lanes l.lane)
