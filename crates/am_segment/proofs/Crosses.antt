-- A block, a claim and a part may cross threads where their items may.
use Rattle.std.proofs.Common.{ℕ, Bool, ◌-◌, ◌*◌, [], ◌∷◌, List, length, arith, rules}
use Rattle.std.specs.Mem.{type_size}
use Rattle.core.specs.Allocator.{array_of}
use Rattle.core.specs.declared.alloc.Allocator.{Ghosts}
use Rattle.std_alloc.proofs.SendSync.{FreesAnywhere, lies, seen, quiet}
use base.Fml.{Fml}
use base.Shift.{Keyless}
use mir.Syntax.{Ty}
use denote.Array.{Array}
use denote.RattleType.{RattleType}
use denote.RawPtr.{Ptr, block_ptr, null_ptr, room_for, ◌+ₚ◌}
use denote.Param.Send.{IsSend, IsSync, AllSend, AllSync, Common, array_send, array_sync, owning_send, struct_send, struct_sync, sendable}
use denote.Struct.Owning.{shape, fields, to}
use denote.Struct.Struct.{exits_of}
use Rattle.am_segment.specs.inside.Ownership.{front, front_lent, rest, claim_owns}
use Rattle.am_segment.specs.contracts.block.Block as block
use Rattle.am_segment.specs.contracts.block.Claim as claim
use Rattle.am_segment.specs.contracts.block.Part as part

room : (τ : Ty) (p : Ptr) → Keyless (room_for τ p)
room τ (block_ptr b o) = tt
room τ null_ptr = tt

module _ (R : RattleType) (p : Ptr) (places : ℕ) (items : List R.Denot) where
  front-keyless : IsSend R → Keyless (front R p places items)
  front-keyless sent = let n = length items in (tt, lies (Array R n) (array_send R n sent) p items)

  front_lent-common : IsSync R → Common (front_lent R p places items)
  front_lent-common shared κ = let n = length items in (tt, seen (Array R n) (array_sync R n shared) p items κ)

  rest-keyless : (t : Ty → Ptr → Fml) → ((τ : Ty) (q : Ptr) → Keyless (t τ q)) → Keyless (rest R p places items t)
  rest-keyless t frees = (room (array_of R (places - length items)) (p +ₚ length items * type_size R), frees (array_of R places) p)

  claim-keyless : (t : Ty → Ptr → Fml) → ((τ : Ty) (q : Ptr) → Keyless (t τ q)) → IsSend R → (segment : ℕ) (there : Bool) → Keyless (claim_owns t R p places items segment there)
  claim-keyless t frees sent segment there = grind (arith, front-keyless, rest-keyless)

module _ (R A : RattleType) (g : Ghosts A.Denot) where
  pub Block-send : IsSend R → FreesAnywhere A.Denot g → IsSend (block.the_row R A g)
  Block-send sent f = let T = block.the_type R A g in let all : AllSend (fields T) = (search sendable, (search sendable, tt)) in
      owning_send T all (λ d. (front-keyless R d.ptr d.places d.items sent, rest-keyless R d.ptr d.places d.items (g.dealloc_token d.alloc) (f.frees d.alloc)))
      (λ k. quiet (to T) (exits_of k (fields T)) ((struct_send (shape T) all).leaving k))

  pub Block-sync : IsSync (block.the_row R A g)
  Block-sync = grind arith

  pub Claim-send : IsSend R → FreesAnywhere A.Denot g → IsSend (claim.the_row R A g)
  Claim-send sent f = grind (arith, claim-keyless, quiet)

  pub Claim-sync : IsSync (claim.the_row R A g)
  Claim-sync = grind arith

module _ (R : RattleType) where
  pub Part-send : IsSync R → IsSend (part.the_row R)
  Part-send shared = search (rules, front_lent-common, quiet)

  pub Part-sync : IsSync R → IsSync (part.the_row R)
  Part-sync shared = let T = part.the_type R in let all : AllSync (fields T) = (search sendable, tt) in
      record { shared = λ d b o κ. ((struct_sync (shape T) all).shared (to T d) b o κ, ((λ q. tt), front_lent-common R d.ptr d.places d.items shared (d.segment ∷ []))) }
