use Rattle.std.proofs.Common.{◌≡◌, take}
use Rattle.am_inhibit.specs.inside.Indexes.{empty_indexes}
use Rattle.am_inhibit.proofs.inhibitor.prepare_each.Given as goal

abbrev pub invariant-loop-rule : goal.invariant-loop-rule
invariant-loop-rule l = l.indexes.items ≡ empty_indexes (take l.rule-index l.rule-items)
