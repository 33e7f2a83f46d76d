use Rattle.std.proofs.Common.{◌≡◌, ◌≤◌, length}
use Rattle.am_segment.proofs.share.without_items.Given as goal

abbrev pub invariant-loop-rest : goal.invariant-loop-rest
invariant-loop-rest g l = (l.rest ≡ length l.block.items) × (l.rest ≤ l.initial.block.places) × (l.block.places ≡ l.initial.block.places) × (l.block.alloc ≡ l.initial.block.alloc)

abbrev pub decreases-loop-rest : goal.decreases-loop-rest
decreases-loop-rest g l = l.rest
