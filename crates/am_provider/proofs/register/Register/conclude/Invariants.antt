use Rattle.std.proofs.Common.{◌≡◌}
use Rattle.std.specs.List.{All}
use mathlib.Core.List.{IsPrefix}
use Rattle.am_provider.proofs.register.Register.conclude.Given as goal

-- each thread so far had seen a beginning of the turns
abbrev pub invariant-loop-one : goal.invariant-loop-one
invariant-loop-one g l = All (λ one. IsPrefix one.seen l.initial.turns) l.yielded × (l.turns ≡ l.initial.turns)
