use Rattle.std.proofs.Common.{◌≡◌, ◌/◌, ℕ, true, false, get_or, take}
use Rattle.am_store.specs.declared.shared_alerts.TheConstants.{BLOCK}
use Rattle.am_store.specs.inside.Changed.{IsUntouched}
use Rattle.am_store.proofs.store.absorb.note_replaced.Given as goal

abbrev pub invariant-loop-change : goal.invariant-loop-change
invariant-loop-change l = (at : ℕ) → get_or l.current.items (at / BLOCK) false ≡ true → (get_or l.fn.current.items (at / BLOCK) false ≡ true) × IsUntouched at (take l.change-index l.changes)
