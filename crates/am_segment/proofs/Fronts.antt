-- The items at a block's front, lent and read.
use Rattle.std.proofs.Common.{ℕ, ◌*◌, ◌^◌, List, length, subst}
use Rattle.std.specs.Mem.{type_size}
use Rattle.std_alloc.proofs.SharedLaws.{lent_shr_laws}
use base.Fml.{Lft, Incl, flt}
use seplogic.Ra.Ura.{Ura}
use types.Logic.{Logic}
use denote.Array.{Array}
use denote.ArrayMemory.{Single}
use denote.Param.Laws.{Laws}
use denote.RattleType.{RattleType}
use denote.RawPtr.{Ptr, lies_at}
use denote.Shares.{Shares-less, Shares-Array}
use denote.Sharing.{ShrLaws, said}
use denote.Struct.Lending.{Lends, Lends-both, Lends-said, Lends-lies, lent_at}
use base.Fraction.{full_share}
use Rattle.am_segment.specs.inside.Ownership.{front, front_lent}

module _ (R : RattleType) (L : Laws R) (p : Ptr) (places : ℕ) (items : List R.Denot) where
  pub front_laws : ShrLaws (front_lent R p places items)
  front_laws = lent_shr_laws R L.shr_laws p (length items) places items

  pub front-lends : {M : Type 1} {𝓤 : Ura M} (𝓛 : Logic 𝓤) (l : Lft) → Incl l R.lives → Lends 𝓛 (front R p places items) (front_lent R p places items) l
  front-lends 𝓛 l inc =
      let size = flt (places * type_size R) (2 ^ 63) in let n = length items in
      Lends-both 𝓛 size (lies_at (Array R n) full_share p items) (said size) (lent_at (Array R n) p items) l (Lends-said 𝓛 size tt l)
      (Lends-lies 𝓛 (Array R n) l p items (Shares-Array 𝓛 R (subst Single (Rattle.std.proofs.Common.sym L.one) tt) n l (Shares-less 𝓛 R R.lives l inc (L.shares 𝓛)) items))
