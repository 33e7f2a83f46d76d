use Rattle.std.proofs.Common.{◌≡◌, drop}
use Rattle.serde_json.specs.View.{items_view}
use Rattle.am_config.specs.Members.{texts_from}
use Rattle.am_config.proofs.TextsSoFar.{with_front}
use Rattle.am_config.proofs.members.texts_from.Given as goal

-- what was read, before what is left, is what is to be read
abbrev pub invariant-loop-i : goal.invariant-loop-i
invariant-loop-i l =
    with_front l.texts.items (texts_from l.path l.i (items_view (drop l.i l.items)))
    ≡ texts_from l.path 0 (items_view l.items)
