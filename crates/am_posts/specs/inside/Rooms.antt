-- How much room the compact text of a value leaves of some bytes.
use Rattle.std.specs.Prelude.{◌≡◌, ◌+◌, ◌≤◌, ℕ, true, false, length}
use Rattle.serde_json.specs.Data.{Data, Items, Members}
use Rattle.serde_json.specs.Written.{compact_text, has_float, items_have_float, items_text}
use Rattle.serde_json.specs.Written.{members_have_float, members_text}

-- the value's text is known, and leaves so much of the room
abbrev pub HasRoom : Data → ℕ → ℕ → Type 0
HasRoom d room left = (has_float d ≡ false) × (length (compact_text d) + left ≤ room)

-- the same of items with their closing bracket, each with a comma before it
abbrev pub ItemsHaveRoom : Items → ℕ → ℕ → Type 0
ItemsHaveRoom ds room left = (items_have_float ds ≡ false) × (length (items_text true ds) + left ≤ room)

-- the same of members
abbrev pub MembersHaveRoom : Members → ℕ → ℕ → Type 0
MembersHaveRoom ms room left = (members_have_float ms ≡ false) × (length (members_text true ms) + left ≤ room)
