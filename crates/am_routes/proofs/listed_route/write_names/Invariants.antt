use Rattle.std.proofs.Common.{◌∷◌, take}
use Rattle.std.specs.Fmt.{HasWritten, IsPlainFormatter}
use Rattle.std.specs.List.{flat_map}
use Rattle.am_labels.specs.Printing.{name_text}
use Rattle.am_routes.proofs.listed_route.write_names.Given as goal

-- the names so far, each with a comma before it
abbrev pub invariant-loop-name : goal.invariant-loop-name
invariant-loop-name g l =
    IsPlainFormatter l.initial.f
    → HasWritten g.W.Write.write_str_gives l.initial.f (flat_map (λ name. 44 ∷ name_text name) (take l.name-index l.others)) l.f
