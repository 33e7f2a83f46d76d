use Rattle.std.proofs.Common.{rules}
use Rattle.am_labels.proofs.LetterTexts.Names.{name_boundary}
use Rattle.am_labels.proofs.LetterTexts.Names.{name_then}
use Rattle.am_labels.proofs.letters.split_name.Goals as goal

pub split_at-requires : goal.split_at-requires
split_at-requires c = name_boundary c.args.text.now c.name_len.result (search rules) (search rules)

pub returns : goal.returns
returns c =
    name_then c.args.text.now c.split_at.result.0.now c.split_at.result.1.now (search rules) (search rules) (search rules)
