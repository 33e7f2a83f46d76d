-- A `&` to a part holds a share of what it holds.
use denote.RattleType.{RattleType}
use denote.Param.Laws.{Laws}
use denote.Param.Shared.{copy_shared}
use denote.Struct.Field.{RawPtr-field}
use denote.Struct.Laws.{RawPtr-copy}
use denote.Struct.Lending.{of_Lends}
use Rattle.left_right.proofs.PartSteps.{lent_laws, Lends-part}
use Rattle.am_segment.specs.inside.Ownership.{front_lent}
use Rattle.am_segment.specs.contracts.block.Part as part
use Rattle.am_segment.proofs.Fronts.{front_laws}
use Rattle.am_segment.proofs.block.Part.TheLaw.Statement.{statement}

pub shares : (R : RattleType) (L : Laws R) → statement R L
shares R L = of_Lends (part.struct R) (part.the_codes R.Denot R.coded) (part.the_heap R) (part.the_lent R)
    (λ d p. lent_laws (front_lent R d.ptr d.places d.items) (front_laws R L d.ptr d.places d.items) d.segment)
    (copy_shared RawPtr-field RawPtr-copy, tt)
    (λ M 𝓤 𝓛 d p. Lends-part (front_lent R d.ptr d.places d.items) (front_laws R L d.ptr d.places d.items) 𝓛 d.segment d.count (part.the_row R).lives)
