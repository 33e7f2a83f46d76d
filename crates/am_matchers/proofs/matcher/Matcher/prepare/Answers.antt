use Rattle.std.proofs.Common.{List, ℕ, sym, subst}
use Rattle.am_matchers.specs.inside.Searches.{IsSearchWith}
use Rattle.am_matchers.proofs.matcher.Matcher.prepare.Goals as goal

pub new-requires : goal.new-requires
new-requires c =
    subst (λ (value : List ℕ). IsSearchWith value c.in_ok-search.search) (sym c.as_str-2.ensures) (c.in_ok-search.ensures.search c.self.inside.value c.self.invariant)
