use Rattle.std.proofs.Common.{◌≡◌, ◌++◌, List, ℕ, length}
use Rattle.am_script.proofs.line_counter.LineCounter.take_in.Given as goal

-- some of the bytes were taken in, and the others are left
abbrev pub invariant-loop-rest : goal.invariant-loop-rest
invariant-loop-rest l =
    (taken : List ℕ) × (taken ++ l.rest ≡ l.bytes) × (l.counter ≡ l.initial.counter ++ taken)

abbrev pub decreases-loop-rest : goal.decreases-loop-rest
decreases-loop-rest l = length l.rest
