use Rattle.std.proofs.Common.{◌≡◌, [], vec_len}
use Rattle.std.specs.List.{All}
use Rattle.am_cast.proofs.key_rows.spares.Spares.end.Given as goal

abbrev pub invariant-loop-builder : goal.invariant-loop-builder
invariant-loop-builder g l = All (λ builder. builder.items ≡ []) l.builders.items

abbrev pub decreases-loop-builder : goal.decreases-loop-builder
decreases-loop-builder g l = vec_len l.builders
