use Rattle.am_matchers.proofs.MatcherTexts.EachText.{each_split}
use Rattle.am_labels.proofs.LetterTexts.Spelling.{letters_spell}
use Rattle.am_matchers.proofs.MatcherMeaning.OneMatcher.{one_matcher}
use Rattle.am_matchers.proofs.MatcherTexts.RoundTrip.{reads_quoted}
use Rattle.am_matchers.proofs.MatcherTexts.Splits.{one_split, no_name_alone, no_operator_alone}
use Rattle.am_matchers.proofs.MatcherTexts.Values.{one_value}
use Rattle.am_matchers.proofs.laws.matcher_grammar_laws.Goals as goal

pub returns : goal.returns
returns c = record {
  split = one_split;
  value = one_value;
  letters = letters_spell;
  each = each_split;
  no_name = no_name_alone;
  no_operator = no_operator_alone;
  one_matcher = one_matcher;
  quoted = reads_quoted;
}
