use Rattle.std.proofs.Common.{◌≡◌, ◌++◌, map, take}
use Rattle.am_answers.specs.declared.answer.Answer.TheVariants.{Invalid}
use Rattle.am_runner.proofs.session.post.add_invalid.Given as goal

-- the faults so far stand
abbrev pub invariant-loop-fault : goal.invariant-loop-fault
invariant-loop-fault l = l.answers.items ≡ l.initial.answers.items ++ map (λ fault. Invalid fault.0 fault.1) (take l.fault-index l.faults)
