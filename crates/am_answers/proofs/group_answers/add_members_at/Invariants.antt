use Rattle.std.proofs.Common.{◌≡◌, ◌++◌, take}
use Rattle.std.specs.List.{flat_map}
use Rattle.am_answers.specs.Consuming.{answers_of_member}
use Rattle.am_answers.specs.Consumers.{unasked}
use Rattle.am_answers.proofs.group_answers.add_members_at.Given as goal

-- the alerts so far are answered, and the inhibitor keeps what it kept
abbrev pub invariant-loop-alert : goal.invariant-loop-alert
invariant-loop-alert l = record {
  answers : l.answers.items ≡ l.initial.answers.items ++ flat_map (answers_of_member l.initial.inhibitor l.now) (take l.alert-index l.alerts);
  same : unasked l.inhibitor ≡ unasked l.initial.inhibitor;
}
