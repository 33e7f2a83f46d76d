use Rattle.std.proofs.Common.{◌<◌}
use Rattle.std.specs.Prelude.{MatchOption}
use Rattle.am_cast.specs.Writers.{Calm, HasRoom, Harvested, IsBehind}
use Rattle.am_cast.proofs.writer.state.WriterState.harvest.Given as goal

abbrev pub invariant-loop-lane : goal.invariant-loop-lane
invariant-loop-lane g l = record {
  calm : Calm l.self.known;
  same : Harvested l.initial.self.known l.self.known l.lane;
  full : MatchOption l.full (HasRoom l.self.known l.lane) (λ m. (m < l.lane) × IsBehind l.self.known m × HasRoom l.self.known m);
}
