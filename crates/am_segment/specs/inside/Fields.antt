-- What contracts see of the fields of a builder, a key and a run of keys, and what always holds of them.
-- Public clauses cite it through the views alone.
use Rattle.std.specs.Prelude.{◌≡◌, ℕ, ◌+◌, ◌-◌, ◌^◌, ◌<◌, ◌≤◌, List, [], ◌∷◌, length, map}
use Rattle.std.specs.Prelude.{Option, Some, None}
use Rattle.std.specs.List.{range_with_len}
use Rattle.am_segment.specs.Segments.{BuilderView, KeyView, key_with}
use Rattle.am_segment.specs.inside.Shares.{name_of}
use Rattle.am_segment.specs.declared.block.Part.{Part}
use Rattle.am_segment.specs.declared.builder.SegmentBuilder.TheInside.{Inside as Builder}
use Rattle.am_segment.specs.declared.key.SegKey.TheInside.{Inside as Key}
use Rattle.am_segment.specs.declared.key_run.KeyRun.TheInside.{Inside as Run}
use Rattle.am_segment.specs.declared.share.Share.{Share}
use Rattle.am_segment.specs.declared.joined_keys.JoinedKeys.TheInside.{Inside as Joined}

-- the first of some numbers
abbrev pub first_in : List ℕ → ℕ
first_in [] = 0
first_in (number ∷ numbers) = number

module _ {X : Type 0} where
  -- a builder as contracts see it
  abbrev pub builder_view : Builder X → BuilderView X
  builder_view b = record { items = b.block.items; places = b.places }

  -- what always holds of a builder: its numbers are those of its block
  pub record IsBuilder (b : Builder X) : Type 0 where
    pub count : b.count ≡ length b.block.items
    pub within : b.count ≤ b.places
    pub small : b.places < 2 ^ 32
    pub block : (b.block.places ≡ b.places) × (b.block.alloc ≡ b.alloc)

  -- the key of a number, of the segment that a part is of
  abbrev pub key_of_part : Part X → ℕ → KeyView X
  key_of_part part number = key_with (name_of part) part.keys part.items number

  -- a key as contracts see it
  abbrev pub key_view : Key X → KeyView X
  key_view k = let part = k.share.part in key_of_part part (first_in part.numbers)

  -- what always holds of a key: what it has is of one number
  pub record IsKey (k : Key X) : Type 0 where
    pub one : k.share.part.numbers ≡ first_in k.share.part.numbers ∷ []
    pub number : first_in k.share.part.numbers < k.share.part.keys

  -- a run of keys, as contracts see the next one
  abbrev pub run_view : Run X → KeyView X
  run_view r = key_of_part r.rest.part r.next

  -- what always holds of a run: it has handed out the keys below `next`, and lost one part for each
  pub record IsRun (r : Run X) : Type 0 where
    pub next : r.next ≤ r.last
    pub keys : r.rest.part.keys ≡ r.last + 1
    pub numbers : r.rest.part.numbers ≡ range_with_len r.next (r.rest.part.keys - r.next)
    pub parts : r.rest.part.count + r.next ≡ 2 ^ 63

  -- the keys that were joined, in order
  abbrev pub keys_held : Option (Share X) → List (KeyView X)
  keys_held None = []
  keys_held (Some held) = map (key_of_part held.part) held.part.numbers

  -- joined keys as contracts see them
  abbrev pub joined_view : Joined X → List (KeyView X)
  joined_view j = keys_held j.held

  -- what always holds of joined keys: they are counted
  abbrev pub IsJoined : Joined X → Type 0
  IsJoined j = j.count ≡ length (joined_view j)
