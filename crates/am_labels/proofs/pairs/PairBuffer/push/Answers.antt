use Rattle.std.proofs.Common.{◌≡◌, ◌∷◌, ◌++◌, [], List, ℕ, subst, sym, rules}
use Rattle.std.specs.String.{string_bytes}
use Rattle.am_labels.specs.inside.Spans.{AreSpansOfAll}
use Rattle.am_labels.proofs.Spans.{fill_one_more, last_span, may_split, one_more_pair}
use Rattle.am_labels.proofs.pairs.PairBuffer.push.Goals as goal

pub truncate-requires : goal.truncate-requires
truncate-requires c inside =
    let was = string_bytes c.self.inside.text in
    let text : string_bytes c.push_str-2.new.self ≡ was ++ c.args.name.now = search rules in
    may_split was c.args.name.now _ _ c.utf8.name text (search rules)

pub invariant_of-self-2 : goal.invariant_of-self-2
invariant_of-self-2 c =
    let was = string_bytes c.self.inside.text in
    let name = c.args.name.now in
    let value = c.args.value.now in
    let spans = c.self.inside.spans.items in
    let text : string_bytes c.push_str-2.new.self ≡ (was ++ name) ++ value = search rules in
    let pushed : c.push.new.self.items ≡ spans ++ last_span was name value ∷ [] = search rules in
    let all = fill_one_more was name value spans c.utf8.name c.utf8.value c.self.invariant in
    subst (λ (bytes : List ℕ). AreSpansOfAll bytes c.push.new.self.items) (sym text) (subst (AreSpansOfAll ((was ++ name) ++ value)) (sym pushed) all)

pub returns-clause-pushed : goal.returns-clause-pushed
returns-clause-pushed c = search (rules, last_span, one_more_pair)
