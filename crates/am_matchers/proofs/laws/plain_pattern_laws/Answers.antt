use Rattle.am_matchers.proofs.MatcherMeaning.PlainPatterns.{plain_groups_are_chosen, plain_texts_are_chosen}
use Rattle.am_matchers.proofs.laws.plain_pattern_laws.Goals as goal

pub returns : goal.returns
returns c = record { texts = plain_texts_are_chosen; groups = plain_groups_are_chosen }
