use Rattle.std.proofs.Common.{◌≡◌, ℕ, ◌<◌, ◌≤◌, length, false, get_or}
use Rattle.am_cast.specs.declared.limits.TheConstants.{LANES}
use Rattle.am_cast.specs.Seats.{account_of}
use Rattle.am_cast.specs.inside.WriterStates.{KeepsRoom}
use Rattle.am_cast.specs.Writers.{Calm, HasRoom, SameAdmission, IsCutAs}
use Rattle.am_cast.proofs.writer.state.WriterState.make_all_room.Given as goal

abbrev pub invariant-loop-lane : goal.invariant-loop-lane
invariant-loop-lane g l = record {
  calm : Calm l.self.known;
  tail : l.self.known.tail ≡ l.initial.self.known.tail;
  room : HasRoom l.self.known l.lane;
  rows : KeepsRoom l.initial.self.rows l.self.rows;
  same : (m : ℕ) → m < LANES → SameAdmission (account_of l.initial.self.known m) (account_of l.self.known m);
  long : length l.lanes ≡ LANES;
  cut : (m : ℕ) → m < l.lane → IsCutAs (length l.initial.self.known.tail.log) l.initial.self.known.tail.places (account_of l.initial.self.known m) (account_of l.self.known m) (get_or l.lanes m false);
  rest : (m : ℕ) → l.lane ≤ m → account_of l.self.known m ≡ account_of l.initial.self.known m;
}
