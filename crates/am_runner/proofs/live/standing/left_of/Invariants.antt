use Rattle.std.proofs.Common.{◌≡◌, ◌-◌, length, filter, take}
use Rattle.am_answers.specs.Answers.{is_item}
use Rattle.am_runner.proofs.live.standing.left_of.Given as goal

-- what is left after those so far
abbrev pub invariant-loop-at : goal.invariant-loop-at
invariant-loop-at l = l.left ≡ l.max - length (filter is_item (take l.at l.given))
