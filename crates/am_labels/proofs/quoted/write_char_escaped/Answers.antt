use Rattle.std.proofs.Common.{arith}
use Rattle.std.proofs.lemmas.Grind.{common_steps}
use Rattle.std.proofs.Output.{has_written_of_eq}
use Rattle.am_labels.proofs.Printing.Escapes.{escaped_char}
use Rattle.am_labels.proofs.quoted.write_char_escaped.Goals as goal

pub returns-in_default : goal.returns-in_default
returns-in_default g c = grind (arith, common_steps, has_written_of_eq, escaped_char)
