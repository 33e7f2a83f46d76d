use Rattle.std.proofs.Common.{◌≡◌, ◌++◌, map, take}
use Rattle.am_matchers.specs.inside.Choices.{kept_texts}
use Rattle.am_matchers.proofs.choice.add_with_each.Given as goal

abbrev pub invariant-loop-second : goal.invariant-loop-second
invariant-loop-second l =
    kept_texts l.texts.items ≡ kept_texts l.fn.texts.items ++ map (λ second. l.first ++ second) (kept_texts (take l.second-index l.seconds))
