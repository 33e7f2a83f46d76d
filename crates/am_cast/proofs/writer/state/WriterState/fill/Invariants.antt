use Rattle.std.proofs.Common.{◌≡◌, ◌<◌, length}
use Rattle.am_cast.specs.declared.limits.TheConstants.{LANES}
use Rattle.am_cast.specs.Keys.{key_of}
use Rattle.am_cast.specs.Seats.{account_of}
use Rattle.am_cast.specs.inside.Tags.{batch_of_tag}
use Rattle.am_cast.specs.inside.Filling.{FilledTo}
use Rattle.am_cast.specs.inside.Waiting.{Gathered, is_live}
use Rattle.am_cast.proofs.writer.state.WriterState.fill.Given as goal

abbrev pub invariant-loop-lane : goal.invariant-loop-lane
invariant-loop-lane g l = record {
  filled : FilledTo key_of l.fn.self.known (batch_of_tag l.tag) l.lane l.self.known;
  rows : l.self.rows ≡ l.fn.self.rows;
  run : (l.lane < LANES) × (l.rest ≡ key_of (batch_of_tag l.tag) l.lane);
  place : l.row.place ≡ length l.fn.self.known.tail.log;
  gathered : Gathered (batch_of_tag l.tag) (λ m. is_live (account_of l.fn.self.known m)) l.lane l.row.keys;
}
