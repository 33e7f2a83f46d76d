-- What an answer of `next` or `next_slice` says of the cursor. `Pending`, `Closed` and `Cut` are `Empty`,
-- `Closed` and `Lagged` of tokio's `broadcast::Receiver::try_recv`, but a cut lane stays cut.
use Rattle.std.specs.Prelude.{◌≡◌, ℕ, ◌+◌, ◌-◌, ◌≤◌, ◌<◌, ◌⊎◌, List, [], ◌∷◌, ◌++◌, Some, true, false, ⊤}
use Rattle.std.specs.Prelude.{drop, length, slice_get}
use mathlib.Core.List.{IsPrefix}
use Rattle.am_cast.specs.declared.batch_view.BatchView.{BatchView}
use Rattle.am_cast.specs.declared.lends.Step.{Step}
use Rattle.am_cast.specs.declared.lends.Step.TheVariants as step
use Rattle.am_cast.specs.declared.lends.Slice.{Slice}
use Rattle.am_cast.specs.declared.lends.Slice.TheVariants as slice
use Rattle.am_cast.specs.declared.lends.Moved.{Moved}
use Rattle.am_cast.specs.declared.lends.Moved.TheVariants as moved
use Rattle.am_cast.specs.Cursors.{CursorView, shown_items, items_at, HasCut, HasEnded}

module _ {T P A : Type 0} where
  -- nothing is left of what was seen, after one look more, which showed the log open
  pub record IsPending (c d : CursorView T P A) : Type 0 where
    pub taken : shown_items d ≡ shown_items c
    pub looks : d.lane.looks ≡ c.lane.looks + 1
    pub told : d.lane.told ≡ false
    pub all : d.lane.passed ≡ length d.lane.front
    pub held : d.lane.held ≡ false
    pub cut : d.lane.cut ≡ false
    pub was_open : HasEnded c → ⊥
    pub was_uncut : HasCut c → ⊥

  -- nothing more was shown, and an answer other than Pending is known. An item of the place in hand or a
  -- place is left, or the cursor knows that its lane was cut or that the log is closed
  pub record HasNews (c d : CursorView T P A) : Type 0 where
    pub taken : shown_items d ≡ shown_items c
    pub known : ((d.lane.held ≡ true) × (d.shown < length (items_at d.lane.front d.lane.passed)))
        ⊎ (d.lane.passed < length d.lane.front) ⊎ (d.lane.cut ≡ true) ⊎ (d.lane.told ≡ true)

  -- the log is closed, and all of it was shown
  pub record IsClosed (c d : CursorView T P A) : Type 0 where
    pub taken : shown_items d ≡ shown_items c
    pub ended : HasEnded d
    pub was_uncut : HasCut c → ⊥

  -- the lane was cut, and what was in hand was shown
  pub record IsCut (c d : CursorView T P A) : Type 0 where
    pub taken : shown_items d ≡ shown_items c
    pub cut : HasCut d
    pub was_open : HasEnded c → ⊥

  -- the item that was shown last, of the place in hand
  abbrev pub IsInHand : CursorView T P A → T → Type 0
  IsInHand c x = slice_get (items_at c.lane.front c.lane.passed) (c.shown - 1) ≡ Some x

  -- one item more was shown, and it is in hand
  pub record IsItem (c d : CursorView T P A) : Type 0 where
    pub held : d.lane.held ≡ true
    pub there : (x : T) × IsInHand d x
    pub taken : (x : T) → IsInHand d x → shown_items d ≡ shown_items c ++ x ∷ []
    pub was_open : HasEnded c → ⊥
    pub was_uncut : HasCut c → ⊥

  -- what an answer says of the cursor
  abbrev pub Moves : CursorView T P A → CursorView T P A → Moved → Type 0
  Moves c d moved.One = IsItem c d
  Moves c d moved.Pending = IsPending c d
  Moves c d moved.Closed = IsClosed c d
  Moves c d moved.Cut = IsCut c d

  -- what an answer that lends its item says of the cursor
  abbrev pub Lends : CursorView T P A → CursorView T P A → Step T → Type 0
  Lends c d (step.Item x) = (shown_items d ≡ shown_items c ++ x.now ∷ []) × (HasEnded c → ⊥) × (HasCut c → ⊥)
  Lends c d step.Pending = IsPending c d
  Lends c d step.Closed = IsClosed c d
  Lends c d step.Cut = IsCut c d

  -- these items were shown at once: of one place, all that was left of it or all that it has
  pub record IsRest (c d : CursorView T P A) (items : List T) : Type 0 where
    pub some : 1 ≤ length items
    pub of_one : length items ≤ length (items_at d.lane.front d.lane.passed)
    pub all : d.shown ≡ length (items_at d.lane.front d.lane.passed)
    pub held : d.lane.held ≡ true
    pub taken : shown_items d ≡ shown_items c ++ items
    pub was_open : HasEnded c → ⊥
    pub was_uncut : HasCut c → ⊥

  -- what an answer says of the cursor, if the items that were shown are those in hand from an index on
  abbrev pub MovesSlice : CursorView T P A → CursorView T P A → Moved → ℕ → Type 0
  MovesSlice c d moved.One index =
      (index ≤ length (items_at d.lane.front d.lane.passed))
      × IsRest c d (drop index (items_at d.lane.front d.lane.passed))
  MovesSlice c d other index = Moves c d other

  -- what an answer that lends many items says of the cursor
  abbrev pub LendsSlice : CursorView T P A → CursorView T P A → Slice T → Type 0
  LendsSlice c d (slice.Items items) = IsRest c d items.now
  LendsSlice c d slice.Pending = IsPending c d
  LendsSlice c d slice.Closed = IsClosed c d
  LendsSlice c d slice.Cut = IsCut c d

  -- if nothing is left, all that the pass knew was seen
  abbrev pub LendsPast : List (BatchView T P) → CursorView T P A → Step T → Type 0
  LendsPast noted d step.Pending = IsPrefix noted d.lane.front
  LendsPast noted d other = ⊤

  -- the same of an answer without its item
  abbrev pub MovesPast : List (BatchView T P) → CursorView T P A → Moved → Type 0
  MovesPast noted d moved.Pending = IsPrefix noted d.lane.front
  MovesPast noted d other = ⊤
