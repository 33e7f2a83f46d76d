use Rattle.std.proofs.Common.{◌≡◌, ◌+◌, ◌≤◌, min, drop}
use Rattle.std.specs.List.{find}
use Rattle.am_inhibit.specs.Muting.{candidate_inhibits, count_to}
use Rattle.am_inhibit.specs.inside.Indexes.{rules_indexed}
use Rattle.am_inhibit.specs.inside.Searches.{candidates_from}
use Rattle.am_inhibit.proofs.inhibitor.search_all.Given as goal

-- no candidate of the rules so far mutes the target
abbrev pub invariant-loop-rule : goal.invariant-loop-rule
invariant-loop-rule l = record {
  same : l.indexes ≡ l.fn.indexes;
  found : find (candidate_inhibits l.labels l.now) (candidates_from 0 l.labels l.alerts (rules_indexed l.fn.indexes))
      ≡ find (candidate_inhibits l.labels l.now) (candidates_from l.rule l.labels l.alerts (rules_indexed (drop l.rule l.fn.indexes)));
  looked : min (count_to (candidate_inhibits l.labels l.now) (candidates_from 0 l.labels l.alerts (rules_indexed l.fn.indexes))) 18446744073709551615
      ≡ min (l.looked + count_to (candidate_inhibits l.labels l.now) (candidates_from l.rule l.labels l.alerts (rules_indexed (drop l.rule l.fn.indexes)))) 18446744073709551615;
  fits : l.looked ≤ 18446744073709551615;
}
