use Rattle.std.proofs.Common.{arith}
use Rattle.std.proofs.lemmas.Grind.{common_steps}
use Rattle.am_posts.proofs.Tokens.{text_read}
use Rattle.am_posts.proofs.draft_reader.read_text.Goals as goal

pub returns-in-Some-String-clause-read : goal.returns-in-Some-String-clause-read
returns-in-Some-String-clause-read c = grind (arith, common_steps, text_read)
