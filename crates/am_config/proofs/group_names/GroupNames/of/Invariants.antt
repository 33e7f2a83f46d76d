use Rattle.std.proofs.Common.{◌≡◌}
use Rattle.am_config.specs.RouteHeads.{distinct}
use Rattle.am_config.proofs.group_names.GroupNames.of.Given as goal

abbrev pub invariant-loop-name : goal.invariant-loop-name
invariant-loop-name l = l.kept.keys ≡ distinct l.yielded
