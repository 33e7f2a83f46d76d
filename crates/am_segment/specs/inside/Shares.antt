-- What keys have of a block, and the name that they know their segment by. Public clauses cite it through
-- the views alone.
use Rattle.std.specs.Prelude.{◌≡◌, ℕ, ◌+◌, ◌-◌, ◌*◌, ◌^◌, ◌<◌, ◌≤◌}
use Rattle.std.specs.Prelude.{Bool, true, false, nat_eq, List, length, count_by}
use denote.RawPtr.{Ptr, block_ptr, null_ptr}
use Rattle.std.specs.Global.{Global}
use Rattle.am_segment.specs.declared.block.Claim.{Claim}
use Rattle.am_segment.specs.declared.block.Part.{Part}

-- two numbers as one, which no two others are
abbrev pub pair : ℕ → ℕ → ℕ
pair a b = 2 ^ a * (2 * b + 1)

-- an address as a number
abbrev pub address_number : Ptr → ℕ
address_number (block_ptr b o) = pair b o + 1
address_number null_ptr = 0

-- a segment's name: the lifetime that its items are lent for, where they lie, how many they are, and for how
-- many there are places. So keys of one name have one address and one length
abbrev pub name : ℕ → Ptr → ℕ → ℕ → ℕ
name lifetime p count places = pair lifetime (pair (address_number p) (pair count places))

module _ {X : Type 0} where
  -- the name of the segment that a part is of
  abbrev pub name_of : Part X → ℕ
  name_of part = name part.segment part.ptr (length part.items) part.places

  -- the claim is to the block that the part is of
  abbrev pub IsBlockOf : Claim X Global → Part X → Type 0
  IsBlockOf claim part = (claim.at ≡ part.ptr) × (claim.segment ≡ part.segment)
      × (length claim.items ≡ length part.items) × (claim.places ≡ part.places)

-- how many of these are the number of the last key
abbrev pub lasts : ℕ → List ℕ → ℕ
lasts keys numbers = count_by (λ number. nat_eq number (keys - 1)) numbers

-- of `keys` keys, those with these numbers have `count` parts: one each, but the last key all further ones.
-- `there` says whether the last key is among them
abbrev pub HoldShares : Bool → ℕ → ℕ → List ℕ → Type 0
HoldShares there count keys numbers = (0 < length numbers) × (length numbers ≤ keys) × (keys ≤ 2 ^ 62)
    × (there ≡ false → (count ≡ length numbers) × (lasts keys numbers ≡ 0))
    × (there ≡ true → (count + keys ≡ 2 ^ 63 + length numbers) × (lasts keys numbers ≡ 1))
