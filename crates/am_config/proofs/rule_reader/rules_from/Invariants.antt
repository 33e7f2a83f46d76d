use Rattle.std.proofs.Common.{drop}
use Rattle.serde_json.specs.View.{items_view}
use Rattle.am_config.specs.Paths.{item_path}
use Rattle.am_config.specs.RouteReadings.{elements}
use Rattle.am_config.specs.RuleReadings.{rule_of}
use Rattle.am_config.proofs.Readings.{IsReadUpTo}
use Rattle.am_config.proofs.rule_reader.rules_from.Given as goal

abbrev pub invariant-loop-i : goal.invariant-loop-i
invariant-loop-i l =
    IsReadUpTo (λ i d. rule_of (item_path l.path i) d) (elements (items_view l.items)) l.rules.items l.i (drop l.i (elements (items_view l.items)))
