use denote.RattleType.{RattleType}
use denote.Param.Send.{IsSync}
use Rattle.am_segment.proofs.Crosses.{Part-sync}
use Rattle.am_segment.specs.contracts.block.Part.{the_row}

pub sync : (R : RattleType) → IsSync R → IsSync (the_row R)
sync = Part-sync
