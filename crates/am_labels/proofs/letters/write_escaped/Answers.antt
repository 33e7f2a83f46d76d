use Rattle.std.proofs.Common.{append_assoc, arith}
use Rattle.std.proofs.lemmas.Grind.{common_steps}
use Rattle.am_labels.proofs.LetterTexts.Spelling.{meant-after}
use Rattle.am_labels.proofs.letters.write_escaped.Goals as goal

pub returns-in_ok-push-in_default-2 : goal.returns-in_ok-push-in_default-2
returns-in_ok-push-in_default-2 c = grind (arith, common_steps, append_assoc, meant-after)
