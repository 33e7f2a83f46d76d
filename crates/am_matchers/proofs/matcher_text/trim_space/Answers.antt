use Rattle.std.proofs.Common.{refl, drop}
use Rattle.std.specs.List.{prefix_len}
use Rattle.std.specs.Char.{is_ascii_whitespace}
use Rattle.std.proofs.lemmas.Str.Ascii.{trim_ascii_is}
use Rattle.am_matchers.proofs.MatcherTexts.Cuts.{trimmed_to}
use Rattle.am_matchers.proofs.matcher_text.trim_space.Goals as goal

pub returns : goal.returns
returns c =
    let text = c.args.text.now in
    let rest = drop (prefix_len is_ascii_whitespace text) text in
    trimmed_to text rest c.trim_ascii.result.now refl (trim_ascii_is text c.trim_ascii.result.now rest refl c.trim_ascii.ensures.value)
