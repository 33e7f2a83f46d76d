use Rattle.std.proofs.Common.{arith}
use Rattle.std.proofs.lemmas.Grind.{common_steps}
use Rattle.std.proofs.lemmas.List.{length-map, take-map}
use Rattle.am_routes.proofs.GroupMaps.{written_kept, change_back, change_nowhere, keys_taken}
use Rattle.am_routes.proofs.dispatcher.undo.Goals as goal

pub returns-in-Begun-clause-before : goal.returns-in-Begun-clause-before
returns-in-Begun-clause-before c = grind (arith, common_steps, take-map, length-map)

pub returns-in-Begun-clause-kept : goal.returns-in-Begun-clause-kept
returns-in-Begun-clause-kept c = grind (arith, common_steps, keys_taken)

pub returns-in-Some-clause-before : goal.returns-in-Some-clause-before
returns-in-Some-clause-before c = grind (arith, common_steps, change_back)

pub returns-in-Some-clause-kept : goal.returns-in-Some-clause-kept
returns-in-Some-clause-kept c = grind (arith, common_steps, written_kept)

pub returns-in_default-clause-before : goal.returns-in_default-clause-before
returns-in_default-clause-before c = grind (arith, common_steps, change_nowhere)
