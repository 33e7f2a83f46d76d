-- The machine values of a block, a claim and a part, and what their fields own.
use Rattle.std.proofs.Common.{◌≡◌, List, [], ◌∷◌, ◌++◌, refl, ap, ◌∙◌, arith}
use Rattle.core.specs.declared.alloc.Allocator.{Ghosts}
use Rattle.std_alloc.proofs.RcSteps.{Good, Ptr-Good}
use seplogic.Ra.Ura.{Ura}
use base.Logic.{ent, emp}
use mir.Syntax.{Ty, ty_ptr, ty_struct, tcons, tnil}
use mir.Val.{Val, vstruct, vcons, vnil, of_list}
use types.Logic.{Logic, sem}
use denote.Copied.{Struct-Copied}
use denote.Laws.{Is}
use denote.Opens.{Opens}
use denote.RattleType.{RattleType}
use denote.RawPtr.{Ptr, ptr_val}
use denote.Shadow.{makes_shadow}
use denote.Struct.Laws.{RawPtr-copy}
use denote.Struct.Owning.{shape}
use denote.Struct.Struct.{Struct, as_fields}
use Rattle.am_segment.specs.contracts.block.Block as block
use Rattle.am_segment.specs.contracts.block.Claim as claim
use Rattle.am_segment.specs.contracts.block.Part as part

-- a value of no bytes
abbrev pub empty_val : Val
empty_val = vstruct vnil

abbrev pub block_val : Ptr → Val
block_val p = vstruct (vcons (ptr_val p) (vcons empty_val vnil))

abbrev pub claim_val : Val
claim_val = vstruct (vcons empty_val vnil)

abbrev pub part_val : Ptr → Val
part_val p = vstruct (vcons (ptr_val p) vnil)

abbrev empty_ty : Ty
empty_ty = ty_struct [] tnil

pub block_good : (p : Ptr) → Good (ty_struct [] (tcons ty_ptr (tcons empty_ty tnil))) (block_val p)
block_good p = as_fields (ty_ptr ∷ empty_ty ∷ []) (ptr_val p ∷ empty_val ∷ []) (Ptr-Good p, ((tt, tt), tt))

pub part_good : (p : Ptr) → Good (ty_struct [] (tcons ty_ptr tnil)) (part_val p)
part_good p = as_fields (ty_ptr ∷ []) (ptr_val p ∷ []) (Ptr-Good p, tt)

abbrev pub claim_ty : Ty
claim_ty = ty_struct [] (tcons empty_ty tnil)

pub claim_good : Good claim_ty claim_val
claim_good = (tt, (tt, tt))

abbrev pub pair_val : Val → Val → Val
pair_val u v = vstruct (vcons u (vcons v vnil))

pub pair_good : (σ τ : Ty) (u v : Val) → Good σ u → Good τ v → Good (ty_struct [] (tcons σ (tcons τ tnil))) (pair_val u v)
pair_good σ τ u v gu gv = as_fields (σ ∷ τ ∷ []) (u ∷ v ∷ []) (gu, (gv, tt))

abbrev pub part_ty : Ty
part_ty = ty_struct [] (tcons ty_ptr tnil)

module _ (R A : RattleType) (g : Ghosts A.Denot) where
  -- the fields of each, as types of their own
  abbrev pub BlockData : RattleType
  BlockData = Struct (shape (block.the_type R A g))

  abbrev pub ClaimData : RattleType
  ClaimData = Struct (shape (claim.the_type R A g))

  pub block_told : (p : Ptr) (vs : List Val) → Is BlockData (p, (tt, tt)) vs → vs ≡ block_val p ∷ []
  block_told p vs is = grind arith

  pub claim_told : (vs : List Val) → Is ClaimData (tt, tt) vs → vs ≡ claim_val ∷ []
  claim_told vs is = is.1.0 ∙ ap (λ (ws : List Val). vstruct (of_list (ws ++ [])) ∷ []) is.1.1.0.1.0

  module _ {M : Type 1} {𝓤 : Ura M} (𝓛 : Logic 𝓤) where
    pub block_made : (p : Ptr) → ent 𝓤 (emp 𝓤) (sem 𝓛 (BlockData.own_val (p, (tt, tt)) (block_val p ∷ [])))
    block_made p = makes_shadow 𝓛 (BlockData.own_val (p, (tt, tt)) (block_val p ∷ [])) (λ vss. (tt, (tt, ((λ uss. (tt, tt)), tt))))
        ((ptr_val p ∷ [], (empty_val ∷ [], tt)), (refl, (refl, ((tt, (refl, tt)), tt))))

    pub claim_made : ent 𝓤 (emp 𝓤) (sem 𝓛 (ClaimData.own_val (tt, tt) (claim_val ∷ [])))
    claim_made = makes_shadow 𝓛 (ClaimData.own_val (tt, tt) (claim_val ∷ [])) (λ vss. (tt, ((λ uss. (tt, tt)), tt)))
        ((empty_val ∷ [], tt), (refl, ((tt, (refl, tt)), tt)))

module _ (R : RattleType) where
  abbrev pub PartData : RattleType
  PartData = Struct (shape (part.the_type R))

  pub part_told : (p : Ptr) (vs : List Val) → Is PartData (p, tt) vs → vs ≡ part_val p ∷ []
  part_told p vs is = is.1.0 ∙ ap (λ (ws : List Val). vstruct (of_list (ws ++ [])) ∷ []) is.1.1.0

  pub part_made : {M : Type 1} {𝓤 : Ura M} (𝓛 : Logic 𝓤) (p : Ptr) → ent 𝓤 (emp 𝓤) (sem 𝓛 (PartData.own_val (p, tt) (part_val p ∷ [])))
  part_made 𝓛 p = makes_shadow 𝓛 (PartData.own_val (p, tt) (part_val p ∷ [])) (λ vss. (tt, (tt, tt))) ((ptr_val p ∷ [], tt), (refl, (refl, tt)))

  pub part_opens : {M : Type 1} {𝓤 : Ura M} (𝓛 : Logic 𝓤) → Opens 𝓛 PartData
  part_opens {M} {𝓤 = 𝓤} 𝓛 = (Struct-Copied 𝓛 (shape (part.the_type R)) (refl, tt) (RawPtr-copy.copied M 𝓤 𝓛, tt)).opens
