use Rattle.std.proofs.Common.{◌≡◌, ◌++◌, [], List, ℕ, IfOk, filter, ap, append-nil, subst, sym, ◌∙◌, rules}
use Rattle.std.specs.FinMap.{entries}
use Rattle.std.specs.List.{list_any}
use Rattle.am_labels.specs.Texts.{same_text}
use Rattle.am_labels.specs.LabelSets.{last_holds}
use Rattle.am_config.proofs.GroupLabels.{last_holds-filter}
use Rattle.am_config.proofs.group_by.labels_named.Goals as goal

pub returns : goal.returns
returns c =
    let test = λ (name : List ℕ). list_any (same_text name) c.args.names.now in
    let kept = λ (pairs : List (List ℕ × List ℕ)). filter (λ (pair : List ℕ × List ℕ). test pair.0) pairs in
    let none : c.loop-name.name-iterator ≡ [] = search rules in
    let all : c.into_iter-name-iterator.result ≡ entries c.args.labels.now = search rules in
    let named : c.loop-name.named ≡ kept (entries c.args.labels.now) =
    sym (append-nil c.loop-name.named) ∙ ap (λ rest. c.loop-name.named ++ kept rest) (sym none)
    ∙ sym c.loop-name.invariant.2 ∙ ap kept all in
    subst (λ m. IfOk c.from_buffer.result (λ made. made ≡ m)) (ap last_holds named ∙ last_holds-filter c.label_set_laws.ensures c.args.labels.now test) c.from_buffer.ensures
