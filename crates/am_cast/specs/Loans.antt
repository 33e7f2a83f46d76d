-- A seat after the loan of the slot in its hand. The slot was lent to be read, so the seat is as it was.
use Rattle.std.specs.Prelude.{◌≡◌, ⊤, Option}
use Rattle.std.specs.Borrow.{Fml, MutBor, RattleType, follows_so}
use Rattle.std.specs.contracts.option.Option.{the_row as option_row}
use mathlib.Core.Option.{none}
use Rattle.atomic_table.specs.declared.shared.Seat.{Seat}
use Rattle.atomic_table.specs.contracts.shared.Seat.{the_row as seat_row}
use Rattle.am_cast.specs.declared.views.View.{View}
use Rattle.am_cast.specs.contracts.views.View.{the_row as view_row}

module _ (B K A : RattleType) where
  -- the type of a seat at a log's table
  abbrev pub lender : RattleType
  lender = seat_row (option_row K) (view_row B K A)

  -- once what the call lent is given back, the seat is as it was
  abbrev pub IsLentToRead : MutBor (Seat (Option K.Denot) (View B.Denot K.Denot A.Denot)) → Fml
  IsLentToRead seat = follows_so lender lender seat.ghost_name none (λ _ _. ⊤) (λ after. after ≡ seat.now)
