use Rattle.std.proofs.Common.{◌∷◌, refl, sym, ap, ◌∙◌, List, ℕ, Option}
use Rattle.atomic_table.specs.Table.{rest}
use Rattle.am_cast.proofs.board.slot.key_in.Goals as goal

pub returns : goal.returns
returns g c = let s = c.args.seat.now in let slot = c.slot_mut-slot.ensures.value in (
  (refl, (λ _. tt), ap (λ (l : List (ℕ × Option g.row.K.Denot)). record { marker = s.marker; table_id = s.table_id; id = s.id; me = (s.me.0, l) }) (sym slot)),
  record { lender = tt; key = slot ∙ ap (λ (o : Option g.row.K.Denot). (c.args.at, o) ∷ rest s.me.1) c.in-Some.is },
)
