use denote.RattleType.{RattleType}
use denote.Param.Send.{IsSend, IsSync}
use Rattle.am_segment.proofs.Crosses.{Part-send}
use Rattle.am_segment.specs.contracts.block.Part.{the_row}

pub send : (R : RattleType) → IsSync R → IsSend (the_row R)
send = Part-send
