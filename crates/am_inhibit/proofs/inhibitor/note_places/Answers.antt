use Rattle.std.proofs.Common.{arith, length-append}
use Rattle.std.proofs.lemmas.Grind.{common_steps}
use Rattle.std.proofs.lemmas.List.{take_more}
use Rattle.std.proofs.lemmas.List.Elements.{filter-append}
use Rattle.am_inhibit.proofs.Places.{new_places-push}
use Rattle.am_inhibit.proofs.inhibitor.note_places.Goals.{then-resolved_at, else-resolved_at}
use Rattle.am_inhibit.proofs.inhibitor.note_places.Goals as goal

pub loop-alert-preserved : goal.loop-alert-preserved
loop-alert-preserved c =
    grind (arith, common_steps, take_more, new_places-push, filter-append, then-resolved_at, length-append, else-resolved_at)
