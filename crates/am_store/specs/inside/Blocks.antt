-- How a list of alerts lies in blocks, and which of them are as what is stored.
use Rattle.std.specs.Prelude.{◌≡◌, ℕ, ◌*◌, ◌/◌, ◌<◌, ◌≤◌, Bool, true, false, List, length, take, drop, get_or}
use Rattle.std.specs.Prelude.{slice_get, Option, Some, None, ⊤}
use Rattle.std.specs.Arc.{arc_value}
use Rattle.std.specs.List.{flat_map}
use Rattle.std.specs.declared.sync.Arc.{Arc}
use Rattle.std.specs.declared.vec.Vec.{Vec}
use Rattle.std.specs.declared.alloc.Global.{Global}
use Rattle.am_alert.specs.declared.alert.Alert.{Alert}
use Rattle.am_store.specs.declared.shared_alerts.TheConstants.{BLOCK, GROUP}
use Rattle.am_store.specs.Shared.{alerts_in}

-- a block of alerts that follow each other
abbrev pub Block : Type 0
Block = Arc (Vec (Arc Alert Global) Global) Global

-- the alerts of a block
abbrev pub alerts_of_block : Block → List Alert
alerts_of_block block = alerts_in (arc_value block).items

-- the alerts of some blocks, one block after another
abbrev pub alerts_of : List Block → List Alert
alerts_of blocks = flat_map alerts_of_block blocks

-- the alerts of some groups, one group after another
abbrev pub all_of : List (List Alert) → List Alert
all_of groups = flat_map (λ group. group) groups

-- each chunk has what a list has from the chunk's place on, in chunks of one size, and nothing is beyond
pub record AreChunks {X Y : Type 0} (n : ℕ) (of : Y → List X) (xs : List X) (chunks : List Y) : Type 0 where
  pub each : (k : ℕ) (d : Y) → k < length chunks
      → of (get_or chunks k d) ≡ take n (drop (n * k) xs)
  pub beyond : length xs ≤ n * length chunks

-- these are the blocks of the alerts
abbrev pub AreBlocksOf : List Alert → List Block → Type 0
AreBlocksOf alerts blocks = AreChunks BLOCK alerts_of_block alerts blocks

-- these are the groups of the alerts
abbrev pub AreGroupsOf : List Alert → List (List Alert) → Type 0
AreGroupsOf alerts groups = AreChunks GROUP (λ group. group) alerts groups

-- where a block counts as current, the list that was shared last has what is stored
abbrev pub IsCurrent : List Bool → Option (List Alert) → List Alert → Type 0
IsCurrent current None stored = ⊤
IsCurrent current (Some shared) stored =
    (at : ℕ) → get_or current (at / BLOCK) false ≡ true → slice_get shared at ≡ slice_get stored at

-- each block that has an alert of the group counts as current
abbrev pub IsGroupCurrent : List Bool → ℕ → Type 0
IsGroupCurrent current group =
    (at : ℕ) → at / GROUP ≡ group → get_or current (at / BLOCK) false ≡ true
