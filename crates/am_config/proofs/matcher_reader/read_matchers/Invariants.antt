use Rattle.std.proofs.Common.{drop}
use Rattle.am_config.specs.MatcherReadings.{matcher_at}
use Rattle.am_config.specs.Paths.{item_path}
use Rattle.am_config.proofs.Readings.{IsReadUpTo}
use Rattle.am_config.proofs.matcher_reader.read_matchers.Given as goal

abbrev pub invariant-loop-i : goal.invariant-loop-i
invariant-loop-i l =
    IsReadUpTo (λ i text. matcher_at (item_path l.path i) text) l.texts l.matchers.items l.i (drop l.i l.texts)
