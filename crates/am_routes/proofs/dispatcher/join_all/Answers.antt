use Rattle.std.proofs.Common.{arith}
use Rattle.std.proofs.lemmas.Grind.{common_steps}
use Rattle.std.proofs.lemmas.List.{map-append}
use Rattle.std.proofs.Common.{length-drop}
use Rattle.std.proofs.lemmas.List.{take_more}
use Rattle.am_routes.proofs.GroupMaps.{all_before_last, members_last}
use Rattle.am_routes.proofs.dispatcher.join_all.Goals as goal

pub loop-one-preserved : goal.loop-one-preserved
loop-one-preserved c = grind (arith, common_steps, take_more, map-append, length-drop, members_last, all_before_last)
