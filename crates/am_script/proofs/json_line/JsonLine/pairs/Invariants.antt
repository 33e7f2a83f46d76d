use Rattle.std.proofs.Common.{◌≡◌, ◌++◌, flat_map}
use Rattle.json.specs.Json.{string}
use Rattle.am_script.specs.JsonLines.{named}
use Rattle.am_script.proofs.json_line.JsonLine.pairs.Given as goal

-- with those that are left all are written
abbrev pub invariant-loop-name : goal.invariant-loop-name
invariant-loop-name l =
    (goal.iterator-loop-name).can_next l.name-iterator ×
    (goal.iterator-loop-name).is_finite l.name-iterator ×
    (l.self ++ flat_map (λ pair. named pair.0 (string pair.1)) l.name-iterator
    ≡ l.initial.self ++ flat_map (λ pair. named pair.0 (string pair.1)) l.fn.pairs)
