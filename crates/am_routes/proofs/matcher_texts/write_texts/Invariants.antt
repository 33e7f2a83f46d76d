use Rattle.std.proofs.Common.{◌∷◌, take}
use Rattle.std.specs.Fmt.{HasWritten, IsPlainFormatter}
use Rattle.std.specs.List.{flat_map}
use Rattle.am_routes.proofs.matcher_texts.write_texts.Given as goal

-- the texts so far, each with a comma before it
abbrev pub invariant-loop-text : goal.invariant-loop-text
invariant-loop-text g l =
    IsPlainFormatter l.initial.f
    → HasWritten g.W.Write.write_str_gives l.initial.f (flat_map (λ text. 44 ∷ text) (take l.text-index l.others)) l.f
