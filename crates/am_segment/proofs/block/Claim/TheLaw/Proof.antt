-- A `&` to it holds nothing.
use denote.RattleType.{RattleType}
use denote.RawPtr.{RawPtr}
use denote.Param.Laws.{Laws}
use denote.Param.Shared.{Sharable, copy_shared}
use denote.SharingLaws.{nothing_shr_laws}
use denote.Struct.Laws.{field_copy}
use denote.Struct.Lending.{of_Lends, Lends-nothing}
use Rattle.core.specs.declared.alloc.Allocator.{Ghosts}
use Rattle.core.specs.contracts.marker.PhantomData as marker
use Rattle.am_segment.specs.contracts.block.Claim as it
use Rattle.am_segment.proofs.block.Claim.TheLaw.Statement.{statement}

mark_shared : Sharable (marker.the_field RawPtr)
mark_shared = copy_shared (marker.the_field RawPtr) (field_copy (marker.the_type RawPtr) tt)

pub shares : (R A : RattleType) (g : Ghosts A.Denot) (L : Laws R) (K : Laws A) → statement R A g L K
shares R A g L K = of_Lends (it.struct R A g)
    (it.the_codes R.Denot A.Denot R.coded A.coded (marker.the_row RawPtr).coded) (it.the_heap R A g) (it.the_lent R A g)
    (λ d p. nothing_shr_laws) (mark_shared, tt) (λ M 𝓤 𝓛 d p. Lends-nothing 𝓛 (it.the_heap R A g d) (it.the_row R A g).lives)
