use Rattle.std.proofs.Common.{◌≡◌, ◌∙◌, ◌++◌, [], List, length, append-nil, length-append, sym, ap, arith}
use Rattle.std.proofs.lemmas.List.{nil_from_length}
use mathlib.Core.List.{IsPrefix}
use Rattle.am_cast.proofs.writer.Writer.tell.Goals as goal

-- lists that begin each other are one
one_list : {X : Type 0} (xs ys : List X) → IsPrefix xs ys → IsPrefix ys xs → xs ≡ ys
one_list xs ys first second =
    let none : first.0 ≡ [] = nil_from_length first.0 (omega (arith, length-append xs first.0, ap length first.1, length-append ys second.0, ap length second.1)) in
    sym (append-nil xs) ∙ (ap (λ rest. xs ++ rest) (sym none) ∙ first.1)

pub returns-clause-noted : goal.returns-clause-noted
returns-clause-noted g c = grind (arith, one_list)
