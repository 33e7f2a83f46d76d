use Rattle.am_segment.proofs.joined_keys.JoinedKeys.add.Goals as goal
use Rattle.std.proofs.lemmas.Grind.{common_steps}
use Rattle.std.proofs.Common.{arith}

pub hold-requires-clause-once : goal.hold-requires-clause-once
hold-requires-clause-once g c some = grind (arith, common_steps)
