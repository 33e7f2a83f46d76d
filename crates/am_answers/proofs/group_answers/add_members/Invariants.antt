use Rattle.std.proofs.Common.{◌≡◌, ◌++◌, map, take}
use Rattle.am_answers.specs.declared.answer.Answer.TheVariants.{Member}
use Rattle.am_answers.proofs.group_answers.add_members.Given as goal

-- the alerts so far are answered
abbrev pub invariant-loop-alert : goal.invariant-loop-alert
invariant-loop-alert l = l.answers.items ≡ l.initial.answers.items ++ map Member (take l.alert-index l.alerts)
