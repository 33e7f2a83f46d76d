use Rattle.std.proofs.Common.{◌≡◌, map, take}
use Rattle.am_routes.specs.Listings.{matcher_text}
use Rattle.am_routes.proofs.matcher_texts.MatcherTexts.of.Given as goal

-- the matchers so far
abbrev pub invariant-loop-matcher : goal.invariant-loop-matcher
invariant-loop-matcher l = l.texts.items ≡ map matcher_text (take l.matcher-index l.matcher-items)
