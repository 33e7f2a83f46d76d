-- The matchers of one text are the same.
use Rattle.std.proofs.Common.{◌≡◌, ℕ, List, ap, ◌∙◌, subst}
use Rattle.am_matchers.specs.declared.operator.Operator.{Operator}
use Rattle.am_matchers.specs.MatcherTexts.{IsValue}
use Rattle.am_matchers.specs.Matchers.{MatcherView}
use Rattle.am_matchers.specs.MatcherLaws.{TextIsOfOneMatcher}
use Rattle.am_matchers.proofs.MatcherTexts.Splits.{one_split}
use Rattle.am_matchers.proofs.MatcherTexts.Values.{one_value}

abbrev view : List ℕ → Operator → List ℕ → MatcherView
view name op value = record { name = name; operator = op; value = value }

pub one_matcher : TextIsOfOneMatcher
one_matcher text a b read again =
    let parts = one_split text a.name b.name read.0.0 again.0.0 a.operator b.operator read.0.1 again.0.1 in
    let values : a.value ≡ b.value = one_value again.0.0 a.value b.value (let P : List ℕ → Type 0 = λ raw. IsValue raw a.value in subst P parts.2 read.0.2) again.0.2 in
    ap (λ (name : List ℕ). view name a.operator a.value) parts.0
    ∙ (ap (λ (op : Operator). view b.name op a.value) parts.1
    ∙ ap (λ (value : List ℕ). view b.name b.operator value) values)
