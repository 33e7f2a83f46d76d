use Rattle.std.proofs.Common.{◌≡◌, ℕ, ◌<◌, ◌≤◌}
use Rattle.am_cast.specs.declared.limits.TheConstants.{LANES}
use Rattle.am_cast.specs.Rule.{idle}
use Rattle.am_cast.specs.Seats.{account_of}
use Rattle.am_cast.proofs.writer.state.WriterState.used_end.Given as goal

abbrev pub invariant-loop-end : goal.invariant-loop-end
invariant-loop-end g l = (1 ≤ l.end) × (l.end ≤ LANES) × ((m : ℕ) → l.end ≤ m → m < LANES → (account_of l.fn.self.known m).stand ≡ idle)

abbrev pub decreases-loop-end : goal.decreases-loop-end
decreases-loop-end g l = l.end
