use Rattle.std.proofs.Common.{◌≡◌, take, true}
use Rattle.am_matchers.specs.Matchers.{all_admitted}
use Rattle.am_matchers.proofs.prepared_matchers.PreparedMatchers.admits.Given as goal

-- each so far admits, and none has changed
abbrev pub invariant-loop-at : goal.invariant-loop-at
invariant-loop-at l =
    (all_admitted (take l.at l.self-inside.matchers.items) l.labels ≡ true) × (l.self-inside.matchers.items ≡ l.initial.self-inside.matchers.items)
