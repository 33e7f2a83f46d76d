use Rattle.std.proofs.Common.{arith}
use Rattle.std.proofs.lemmas.Grind.{common_steps}
use Rattle.std.specs.Char.{is_ascii_digit}
use Rattle.std.proofs.lemmas.List.Sums.{prefix_len-le-length}
use Rattle.am_config.specs.inside.DurationParts.{is_no_digit}
use Rattle.am_config.proofs.Durations.{run_passes}
use Rattle.am_config.proofs.duration.split_part.Goals as goal

pub split_at-requires : goal.split_at-requires
split_at-requires c = omega (arith, c.digits_len.ensures, prefix_len-le-length is_ascii_digit c.args.text.now)

pub split_at-requires-2 : goal.split_at-requires-2
split_at-requires-2 c = omega (arith, c.symbol_len.ensures, prefix_len-le-length is_no_digit c.split_at.result.1.now)

pub returns-clause-number : goal.returns-clause-number
returns-clause-number c = grind (arith, common_steps, run_passes)
