use Rattle.std.proofs.Common.{◌≡◌, ℕ, ◌<◌, ◌≤◌, length, false, get_or}
use Rattle.am_cast.specs.declared.limits.TheConstants.{LANES}
use Rattle.am_cast.specs.Seats.{account_of}
use Rattle.am_cast.specs.Writers.{Calm, IsReclaimedAs}
use Rattle.am_cast.proofs.writer.state.WriterState.reclaim.Given as goal

abbrev pub invariant-loop-lane : goal.invariant-loop-lane
invariant-loop-lane g l = record {
  calm : Calm l.self.known;
  tail : l.self.known.tail ≡ l.initial.self.known.tail;
  long : length l.lanes ≡ LANES;
  found : (m : ℕ) → m < l.lane → IsReclaimedAs (account_of l.initial.self.known m) (account_of l.self.known m) (get_or l.lanes m false);
  rest : (m : ℕ) → l.lane ≤ m → account_of l.self.known m ≡ account_of l.initial.self.known m;
}
