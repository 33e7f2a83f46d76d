use Rattle.std.proofs.lemmas.Str.Ascii.{trim_ascii_start_is}
use Rattle.am_matchers.proofs.MatcherTexts.Cuts.{space_then}
use Rattle.am_matchers.proofs.matcher_text.skip_space.Goals as goal

pub returns : goal.returns
returns c = space_then _ _ (trim_ascii_start_is c.args.text.now c.trim_ascii_start.result.now c.trim_ascii_start.ensures.value)
