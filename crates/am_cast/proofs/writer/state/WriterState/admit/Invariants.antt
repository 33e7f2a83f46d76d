use Rattle.std.proofs.Common.{Some}
use Rattle.am_cast.proofs.writer.state.WriterState.admit.Given as goal

abbrev pub ghosts-admit_lane : goal.ghosts-admit_lane
ghosts-admit_lane g a = record { note = Some a.tag.now.value }
