-- What a block, a claim to it and a part of it own, in the logic. Only `block.rt` cites it, and no
-- public call. R is the items' type, p the block's address, t what its allocator asks for to take
-- it back. This project's own, in the words of the library's `Vec`.
use Rattle.std.specs.Prelude.{ℕ, Bool, true, false, ◌-◌, ◌*◌, ◌^◌, List, [], ◌∷◌, length}
use Rattle.std.specs.Mem.{type_size}
use Rattle.core.specs.Allocator.{array_of}
use Rattle.std_alloc.specs.Vec.Ownership.{vec_shares}
use Rattle.left_right.specs.Parted.{tokens}
use base.Fraction.{full_share}
use base.Fml.{Lft, Fml, fsep, flt, flft, flent, ftrue}
use mir.Syntax.{Ty}
use denote.RattleType.{RattleType}
use denote.Array.{Array}
use denote.RawPtr.{Ptr, lies_at, room_for, ◌+ₚ◌}
use denote.Sharing.{beside, one, held}

module _ (R : RattleType) (p : Ptr) (places : ℕ) (items : List R.Denot) where
  -- the items at the block's front, and that its places take fewer than 2 ^ 63 bytes
  abbrev pub front : Fml
  front = fsep (flt (places * type_size R) (2 ^ 63))
      (lies_at (Array R (length items)) full_share p items)

  -- the same, for whoever may only read
  abbrev pub front_lent : Lft → Fml
  front_lent = vec_shares R p (length items) places items

  -- the empty places, and the right to free the block
  abbrev pub rest : (Ty → Ptr → Fml) → Fml
  rest t = fsep (room_for (array_of R (places - length items)) (p +ₚ length items * type_size R))
      (t (array_of R places) p)

-- a block that nobody else reads
abbrev pub block_owns : (Ty → Ptr → Fml) → (R : RattleType) → Ptr → ℕ → List R.Denot → Fml
block_owns t R p places items = fsep (front R p places items) (rest R p places items t)

-- a claim that is there: the items once the lifetime `segment` is over, and the rest of the block
abbrev pub claim_owns : (Ty → Ptr → Fml) → (R : RattleType) → Ptr → ℕ → List R.Denot → ℕ → Bool → Fml
claim_owns t R p places items segment true =
    fsep (flent (segment ∷ []) (front R p places items)) (rest R p places items t)
claim_owns t R p places items segment false = ftrue

-- `count` parts in 2 ^ 63 of what keeps that lifetime alive, and the items, readable while it is
abbrev pub part_owns : (R : RattleType) → Ptr → ℕ → List R.Denot → ℕ → ℕ → Fml
part_owns R p places items segment count =
    fsep (tokens segment count) (front_lent R p places items (segment ∷ []))

-- a `&` to a part: some share of those, and the items for as long
abbrev pub part_shares : (R : RattleType) → Ptr → ℕ → List R.Denot → ℕ → Lft → Fml
part_shares R p places items segment =
    beside (one (λ share. flft (segment ∷ []) share)) (held (segment ∷ []) (front_lent R p places items))
