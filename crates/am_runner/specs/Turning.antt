-- The order in which the turns of a script's threads are taken.
use Rattle.std.specs.Prelude.{◌≡◌, ℕ, ◌<◌, Bool, true, false, if◌then◌else◌, List, ⊤}
use Rattle.std.specs.Prelude.{slice_get, Option, Some, None}
use mathlib.Core.List.{IsPrefix}
use Rattle.am_history.specs.Fronts.{FrontView}
use Rattle.am_provider.specs.Histories.{EntryView}
use Rattle.am_provider.specs.Turns.{IsBegun, IsEnded}

-- the turns in the order in which they were taken, each as the front that its caller had at its end; none, if
-- the threads take theirs as they reach them
abbrev pub Order : Type 0
Order = Option (List (FrontView EntryView))

-- these turns, if they are taken in an order
abbrev pub order_of : Bool → List (FrontView EntryView) → Order
order_of ordered turns = if ordered then Some turns else None

-- the turn of a number began with one front and ended with another. In an order it is at its number, and when
-- it began, its caller had seen all that the callers of the earlier turns had seen at the ends of these
abbrev pub IsTurn : Order → ℕ → FrontView EntryView → FrontView EntryView → Type 0
IsTurn None at began ended = ⊤
IsTurn (Some turns) at began ended = (slice_get turns at ≡ Some ended)
    × ((earlier : ℕ) (turn : FrontView EntryView) → earlier < at → slice_get turns earlier ≡ Some turn
    → IsPrefix turn.seen began.seen)

-- what the begin of a turn shows, if the turns are taken in an order: to its thread the turns before it, and
-- to its caller the history. Else it shows nothing
abbrev pub Begins : Bool → ℕ → List (FrontView EntryView) → List (FrontView EntryView) → FrontView EntryView
    → FrontView EntryView → Type 0
Begins false at saw sees was is = (sees ≡ saw) × (is ≡ was)
Begins true at saw sees was is = IsBegun at saw sees was is

-- what the end of a turn adds
abbrev pub Ends : Bool → ℕ → List (FrontView EntryView) → List (FrontView EntryView) → FrontView EntryView
    → FrontView EntryView → Type 0
Ends false at saw sees was is = (sees ≡ saw) × (is ≡ was)
Ends true at saw sees was is = IsEnded at saw sees was is

-- of two turns in one order, the later one began when its caller had seen all that the earlier one's had
abbrev pub TurnsFollow : Type 0
TurnsFollow = (turns : List (FrontView EntryView)) (at later : ℕ)
    (began ended began_then ended_then : FrontView EntryView)
    → at < later → IsTurn (Some turns) at began ended → IsTurn (Some turns) later began_then ended_then
    → IsPrefix ended.seen began_then.seen
