use Rattle.std.proofs.Common.{◌≡◌, ◌+◌, drop}
use Rattle.std.specs.List.{find}
use Rattle.am_inhibit.specs.Muting.{count_to}
use Rattle.am_inhibit.specs.inside.Indexes.{source_inhibits}
use Rattle.am_inhibit.proofs.source_index.first_walked.Given as goal

-- none of the sources so far mutes the target
abbrev pub invariant-loop-before : goal.invariant-loop-before
invariant-loop-before l = record {
  found : find (source_inhibits l.is_source l.now l.alerts) l.sources ≡ find (source_inhibits l.is_source l.now l.alerts) (drop l.before l.sources);
  looked : count_to (source_inhibits l.is_source l.now l.alerts) l.sources ≡ l.before + count_to (source_inhibits l.is_source l.now l.alerts) (drop l.before l.sources);
}
