-- What reading a text answers, from its steps.
use Rattle.std.proofs.Common.{◌≡◌, ℕ, List, Result, Err, sym, subst}
use Rattle.am_matchers.specs.declared.match_fault.MatchFault.{MatchFault}
use Rattle.am_matchers.specs.declared.match_fault.MatchFault.TheVariants.{NoMemory, NoOperator, BadName, BadQuote, BadPattern}
use Rattle.am_matchers.specs.declared.operator.Operator.{Operator}
use Rattle.am_matchers.specs.inside.Comparisons.{IsComparisonOf}
use Rattle.am_matchers.specs.Matchers.{MatcherView, IsReadingOf, IsTextOf}
use Rattle.am_matchers.specs.MatcherTexts.{IsSplit, IsValue}

-- the parts and the value, under other names for them
pub text_of : (text name raw value same : List ℕ) (op like : Operator) → same ≡ name → like ≡ op → IsSplit text name op raw → IsValue raw value → IsTextOf text same like value
text_of text name raw value same op like e f split written =
    (raw, subst (λ n. IsSplit text n like raw) (sym e) (subst (λ o. IsSplit text name o raw) (sym f) split), written)

fault_of : (text name raw value : List ℕ) (op : Operator) (fault : MatchFault) → IsSplit text name op raw → IsValue raw value → IsComparisonOf op value (Err fault) → IsReadingOf text (Err fault)
fault_of text name raw value op NoMemory split written h = (name, op, raw, split)
fault_of text name raw value op NoOperator split written h = absurd h
fault_of text name raw value op BadName split written h = absurd h
fault_of text name raw value op BadQuote split written h = absurd h
fault_of text name raw value op BadPattern split written h = (name, op, value, (raw, split, written), h.0, h.1)

-- a comparison that wasn't made
pub not_made : (text name raw value : List ℕ) (op : Operator) (fault : MatchFault) (result : Result MatcherView MatchFault) → result ≡ Err fault → IsSplit text name op raw → IsValue raw value → IsComparisonOf op value (Err fault) → IsReadingOf text result
not_made text name raw value op fault result e split written h =
    subst (IsReadingOf text) (sym e) (fault_of text name raw value op fault split written h)
