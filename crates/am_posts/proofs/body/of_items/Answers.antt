use Rattle.std.proofs.Common.{arith}
use Rattle.std.proofs.lemmas.Grind.{common_steps}
use Rattle.am_posts.proofs.Arrays.{count_values}
use Rattle.am_posts.proofs.Rooms.{within}
use Rattle.am_posts.proofs.body.of_items.Goals as goal

pub returns-then-is_some : goal.returns-then-is_some
returns-then-is_some c = grind (arith, common_steps, within, count_values)
