-- A cursor after the loan of an item. `next` lends `&`s alone, so the cursor is then as the call left it:
-- this is Rattle's `follows_so`, for a result through which nothing is written.
use Rattle.std.specs.Prelude.{⊤}
use Rattle.std.specs.Borrow.{Fml, MutBor, RattleType, follows_so}
use mathlib.Core.Option.{none}
use Rattle.am_cast.specs.contracts.cursor.Cursor.{the_row}
use Rattle.am_cast.specs.declared.feed.Feed.{Ghosts}
use Rattle.am_cast.specs.Cursors.{CursorView}

module _ (C T P A N : RattleType) (feed : Ghosts N.Denot) where
  -- the type of a cursor that reaches the table by a C
  abbrev pub lender : RattleType
  lender = the_row C T N P A feed

  -- once what the call lent is given back, this holds of the cursor
  abbrev pub AfterTheLoan : MutBor (CursorView T.Denot P.Denot A.Denot)
      → (CursorView T.Denot P.Denot A.Denot → Type 0) → Fml
  AfterTheLoan cursor Holds = follows_so lender lender cursor.ghost_name none (λ _ _. ⊤) Holds
