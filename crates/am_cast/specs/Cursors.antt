-- What a cursor knows, and the items that it has shown.
use Rattle.std.specs.Prelude.{◌≡◌, ℕ, List, ◌++◌, take, drop, length, true, false}
use mathlib.Core.List.{IsPrefix}
use Rattle.am_cast.specs.declared.batch_view.BatchView.{BatchView}
use Rattle.am_cast.specs.declared.views.LaneView.{LaneView}
use Rattle.am_cast.specs.Keys.{all_items}

-- what the cursor's lane knows, and how many items of the place in hand were shown
pub record CursorView (T P A : Type 0) : Type 0 where
  pub lane : LaneView (BatchView T P) A
  pub shown : ℕ

-- the items of a place
abbrev pub items_at : {T P : Type 0} → List (BatchView T P) → ℕ → List T
items_at front place = all_items (take 1 (drop place front))

module _ {T P A : Type 0} where
  -- a cursor that has shown nothing
  abbrev pub as_cursor : LaneView (BatchView T P) A → CursorView T P A
  as_cursor v = record { lane = v; shown = 0 }

  -- all that the cursor has shown: the items of the places that it passed, from its start on, and
  -- those of the place in its hand that were shown
  abbrev pub shown_items : CursorView T P A → List T
  shown_items c = all_items (drop c.lane.start (take c.lane.passed c.lane.front))
      ++ take c.shown (items_at c.lane.front c.lane.passed)

  -- it has found its lane cut, and has shown what it had in hand: it shows nothing else
  abbrev pub HasCut : CursorView T P A → Type 0
  HasCut c = (c.lane.cut ≡ true) × (c.lane.held ≡ false)

  -- its last look showed the log closed, and it has passed all places
  abbrev pub HasEnded : CursorView T P A → Type 0
  HasEnded c = (c.lane.told ≡ true) × (c.lane.passed ≡ length c.lane.front) × (c.lane.held ≡ false)
      × (c.lane.cut ≡ false)

  -- the same lane, admitted once, which has seen as much or more
  abbrev pub GoesOn : CursorView T P A → CursorView T P A → Type 0
  GoesOn c d = (d.lane.number ≡ c.lane.number) × (d.lane.turn ≡ c.lane.turn) × (d.lane.note ≡ c.lane.note)
      × (d.lane.start ≡ c.lane.start) × IsPrefix c.lane.front d.lane.front

-- a cursor that has passed all places that it has seen has shown all their items, from its start on. So has
-- each one whose last answer was Closed or Pending
abbrev pub ShowsAllItems : (T P A : Type 0) → Type 0
ShowsAllItems T P A = (c : CursorView T P A) → c.lane.passed ≡ length c.lane.front
    → shown_items c ≡ all_items (drop c.lane.start c.lane.front)
