use Rattle.std.proofs.Common.{◌≡◌, replicate, vec_capacity}
use Rattle.am_steps.specs.States.{unaware_poster}
use Rattle.am_steps.proofs.state.unaware_posters.Given as goal

abbrev pub invariant-loop-number : goal.invariant-loop-number
invariant-loop-number l = (l.made.items ≡ replicate l._number unaware_poster) × (vec_capacity l.made ≡ l.count)
