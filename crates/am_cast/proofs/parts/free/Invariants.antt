use Rattle.std.proofs.Common.{◌≡◌, ℕ, ◌<◌, ◌≤◌, false, true, None, get_or}
use mathlib.Core.Option.{some}
use lib.ListN.{get_elem?}
use Rattle.std.specs.Slots.{slots_items, slots_filled, slots_len}
use Rattle.am_cast.proofs.parts.free.Given as goal

abbrev pub invariant-loop-index : goal.invariant-loop-index
invariant-loop-index g l = record {
  len : slots_len l.closed.slots ≡ slots_len l.initial.closed.slots;
  filled : (k : ℕ) → l.index ≤ k → k < slots_len l.closed.slots → get_or (slots_filled l.closed.slots) k false ≡ true;
  emptied : (k : ℕ) → k < l.index → get_or (slots_filled l.closed.slots) k false ≡ false;
  none : (k : ℕ) (y : _) → get_elem? (slots_items l.closed.slots) k ≡ some y → y ≡ None;
}
