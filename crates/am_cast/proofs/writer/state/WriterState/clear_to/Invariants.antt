use Rattle.std.proofs.Common.{◌≤◌}
use Rattle.am_cast.specs.Seats.{account_of}
use Rattle.am_cast.specs.inside.WriterStates.{OnlyAccount, KeepsRoom}
use Rattle.am_cast.proofs.writer.state.WriterState.clear_to.Given as goal

abbrev pub invariant-loop-place : goal.invariant-loop-place
invariant-loop-place g l = OnlyAccount l.initial.self l.self l.lane (record (account_of l.initial.self.known l.lane) { cleared = l.place }) × (l.place ≤ l.to) × KeepsRoom l.initial.self.rows l.self.rows
