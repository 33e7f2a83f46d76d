use Rattle.std.proofs.Common.{◌≡◌, drop}
use Rattle.am_matchers.specs.inside.Choices.{kept_texts, is_one_of}
use Rattle.am_matchers.proofs.choice.is_one_of.Given as goal

-- the answer among the texts that are left is the answer
abbrev pub invariant-loop-one : goal.invariant-loop-one
invariant-loop-one l =
    is_one_of l.text (kept_texts (drop l.one-index l.texts)) ≡ is_one_of l.text (kept_texts l.texts)
