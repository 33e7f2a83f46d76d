use Rattle.std.proofs.Common.{◌≡◌, take}
use Rattle.std.specs.List.{flat_map}
use Rattle.am_answers.specs.Consuming.{answers_of_group}
use Rattle.am_answers.proofs.group_answers.plain_groups.Given as goal

-- the groups so far are answered
abbrev pub invariant-loop-group : goal.invariant-loop-group
invariant-loop-group l = l.answers.items ≡ flat_map answers_of_group (take l.group-index l.groups)
