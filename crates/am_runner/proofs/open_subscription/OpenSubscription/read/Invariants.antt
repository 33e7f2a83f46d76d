use Rattle.std.proofs.Common.{◌≡◌}
use Rattle.am_runner.specs.Reading.{ReadsSome}
use Rattle.am_runner.proofs.open_subscription.OpenSubscription.read.Given as goal

-- as many alerts were read as there were turns
abbrev pub invariant-loop-shown : goal.invariant-loop-shown
invariant-loop-shown g l = record {
  reads : ReadsSome l.initial.self l._shown l.answers.items l.self;
  pass : l.pass ≡ l.fn.pass;
}
