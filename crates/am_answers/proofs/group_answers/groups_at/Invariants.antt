use Rattle.std.proofs.Common.{◌≡◌, take}
use Rattle.std.specs.List.{flat_map}
use Rattle.am_answers.specs.Consuming.{answers_of_group_at}
use Rattle.am_answers.specs.Consumers.{unasked}
use Rattle.am_answers.proofs.group_answers.groups_at.Given as goal

-- the groups so far are answered, and the inhibitor keeps what it kept
abbrev pub invariant-loop-group : goal.invariant-loop-group
invariant-loop-group l = record {
  answers : l.answers.items ≡ flat_map (answers_of_group_at l.initial.inhibitor l.now) (take l.group-index l.groups);
  same : unasked l.inhibitor ≡ unasked l.initial.inhibitor;
}
