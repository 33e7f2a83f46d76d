use Rattle.std.proofs.Common.{◌≡◌, ◌++◌, map}
use Rattle.am_answers.specs.declared.answer.Answer.TheVariants.{StoredAlert}
use Rattle.am_runner.proofs.session.stored.add_stored.Given as goal

-- the alerts so far stand
abbrev pub invariant-loop-alert : goal.invariant-loop-alert
invariant-loop-alert l = l.answers.items ++ map StoredAlert l.alert-iterator ≡ l.initial.answers.items ++ map StoredAlert l.stored
