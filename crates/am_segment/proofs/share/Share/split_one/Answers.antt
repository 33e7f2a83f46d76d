use Rattle.std.proofs.Common.{arith}
use Rattle.am_segment.proofs.share.Share.split_one.Goals as goal
use Rattle.std.proofs.lemmas.Grind.{common_steps}

pub split_one-one-requires : goal.split_one-one-requires
split_one-one-requires g c = grind (arith, common_steps)
