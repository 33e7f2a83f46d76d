use Rattle.std.proofs.Common.{◌-◌}
use Rattle.am_config.proofs.duration.+sum_of_parts.Given as goal

abbrev pub decreases-sum_of_parts : goal.decreases-sum_of_parts
decreases-sum_of_parts l = 7 - l.from
