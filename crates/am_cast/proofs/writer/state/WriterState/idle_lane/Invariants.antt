use Rattle.std.proofs.Common.{◌≢◌, ℕ, ◌<◌}
use Rattle.am_cast.specs.Rule.{idle}
use Rattle.am_cast.specs.Seats.{account_of}
use Rattle.am_cast.proofs.writer.state.WriterState.idle_lane.Given as goal

abbrev pub invariant-loop-lane : goal.invariant-loop-lane
invariant-loop-lane g l = (m : ℕ) → m < l.lane → (account_of l.self.known m).stand ≢ idle
