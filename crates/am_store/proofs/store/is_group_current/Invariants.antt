use Rattle.std.proofs.Common.{◌≡◌, ◌<◌, ◌≤◌, ℕ, true, false, get_or}
use Rattle.am_store.proofs.store.is_group_current.Given as goal

abbrev pub invariant-loop-at : goal.invariant-loop-at
invariant-loop-at l = (k : ℕ) → l.first ≤ k → k < l.at → get_or l.current k false ≡ true
