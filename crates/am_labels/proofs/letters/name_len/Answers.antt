use Rattle.std.proofs.Common.{sym, arith}
use Rattle.std.proofs.lemmas.Grind.{common_steps}
use Rattle.std.proofs.lemmas.List.Sums.{prefix_len_is}
use Rattle.am_labels.specs.Printing.{is_name_byte}
use Rattle.am_labels.proofs.letters.name_len.Goals as goal

pub returns-then-not-is_name_byte : goal.returns-then-not-is_name_byte
returns-then-not-is_name_byte c = grind (arith, common_steps, prefix_len_is)

pub returns : goal.returns
returns c =
    sym (prefix_len_is is_name_byte c.args.text.now _ 0 (omega arith) (λ k short. c.loop-i.invariant k (omega arith)) (λ short. absurd (omega arith)))
