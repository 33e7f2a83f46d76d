-- How a cursor moves on, in the steps of one call.
use Rattle.std.specs.Prelude.{◌≡◌, length, false, ⊤}
use Rattle.am_cast.specs.declared.lends.Step.{Step}
use Rattle.am_cast.specs.declared.lends.Step.TheVariants as step
use Rattle.am_cast.specs.declared.lends.Moved.{Moved}
use Rattle.am_cast.specs.declared.lends.Moved.TheVariants as moved
use Rattle.am_cast.specs.Cursors.{CursorView, shown_items, HasCut, HasEnded}
use Rattle.am_cast.specs.Lent.{IsItem, IsCut, IsInHand}

-- an answer without its item
abbrev pub without_item : {T : Type 0} → Step T → Moved
without_item (step.Item x) = moved.One
without_item step.Pending = moved.Pending
without_item step.Closed = moved.Closed
without_item step.Cut = moved.Cut

-- no answer that waits for a look
abbrev pub AreAllSeen : Moved → Type 0
AreAllSeen moved.Pending = ⊥
AreAllSeen other = ⊤

module _ {T P A : Type 0} where
  -- the same, of a call that tries to take a key
  abbrev pub TriesTake : CursorView T P A → CursorView T P A → Moved → Type 0
  TriesTake c d moved.One = IsItem c d
  TriesTake c d moved.Cut = IsCut c d
  TriesTake c d other = ⊥

  -- nothing is left of what was seen, and the answer waits for a look
  pub record NeedsLook (c d : CursorView T P A) : Type 0 where
    pub taken : shown_items d ≡ shown_items c
    pub looks : d.lane.looks ≡ c.lane.looks
    pub told : d.lane.told ≡ false
    pub all : d.lane.passed ≡ length d.lane.front
    pub held : d.lane.held ≡ false
    pub shown : d.shown ≡ 0
    pub cut : d.lane.cut ≡ false
    pub was_open : HasEnded c → ⊥
    pub was_uncut : HasCut c → ⊥

  -- what an answer says after a look
  abbrev pub AfterLook : CursorView T P A → CursorView T P A → Moved → Type 0
  AfterLook c d moved.One = IsItem c d
  AfterLook c d moved.Pending = (d ≡ c) × (c.lane.told ≡ false) × (c.lane.passed ≡ length c.lane.front)
  AfterLook c d moved.Closed = (d ≡ c) × HasEnded c
  AfterLook c d moved.Cut = IsCut c d

  -- an item that is lent is the one in hand
  abbrev pub LendsInHand : CursorView T P A → Step T → Type 0
  LendsInHand c (step.Item x) = IsInHand c x.now
  LendsInHand c other = ⊤
