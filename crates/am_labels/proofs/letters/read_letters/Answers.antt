use Rattle.std.proofs.Common.{arith}
use Rattle.std.proofs.lemmas.Grind.{common_steps}
use Rattle.std.proofs.lemmas.Str.{encode_ascii}
use Rattle.am_labels.proofs.LetterTexts.Spelling.{read_after, read_char, read_quote}
use Rattle.am_labels.proofs.letters.read_letters.Goals as goal

pub loop-c-preserved-then-is_escaped : goal.loop-c-preserved-then-is_escaped
loop-c-preserved-then-is_escaped c = grind (arith, common_steps, read_after)

pub returns-then-c-eq34 : goal.returns-then-c-eq34
returns-then-c-eq34 c = grind (arith, common_steps, encode_ascii, read_quote)

pub loop-c-preserved : goal.loop-c-preserved
loop-c-preserved c = grind (arith, common_steps, read_char)
