use Rattle.std.proofs.Common.{length}
use Rattle.am_runner.specs.Sessions.{SessionView, LeavesAll}
use Rattle.am_runner.proofs.session.Session.end.Given as goal

-- who leaves the subscriptions that are open now has left all of them
abbrev pub invariant-loop-self : goal.invariant-loop-self
invariant-loop-self g l = (new : SessionView) → LeavesAll l.self new → LeavesAll l.initial.self new

abbrev pub decreases-loop-self : goal.decreases-loop-self
decreases-loop-self g l = length l.self.opened
