use denote.RattleType.{RattleType}
use denote.Param.Send.{IsSend, Frees}
use Rattle.core.specs.declared.alloc.Allocator.{Ghosts}
use Rattle.am_segment.proofs.Crosses.{Claim-send}
use Rattle.am_segment.specs.contracts.block.Claim.{the_row}

pub send : (R A : RattleType) (g : Ghosts A.Denot) → IsSend R → IsSend A → Frees g g.dealloc_token → IsSend (the_row R A g)
send R A g items by frees = Claim-send R A g items frees
