use Rattle.std.proofs.Common.{◌≡◌, take}
use Rattle.am_matchers.specs.inside.Choices.{kept_texts, crossed}
use Rattle.am_matchers.proofs.choice.each_with_each.Given as goal

abbrev pub invariant-loop-first : goal.invariant-loop-first
invariant-loop-first l =
    kept_texts l.texts.items ≡ crossed (kept_texts (take l.first-index l.firsts)) (kept_texts l.seconds)
