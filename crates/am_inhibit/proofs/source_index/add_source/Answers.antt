use Rattle.std.proofs.Common.{rules, ◌≡◌, ◌++◌, ◌∷◌, [], None, Some, sym, ap, ◌∙◌, arith}
use Rattle.std.proofs.lemmas.Grind.{common_steps}
use Rattle.std.specs.List.{position}
use Rattle.std.specs.Map.{keys_of, lookup}
use Rattle.indexmap.specs.IndexMap.{get, set_value_at}
use Rattle.indexmap.proofs.CallerLemmas.{insert_entry-new}
use Rattle.am_inhibit.specs.inside.Sources.{same_values}
use Rattle.am_inhibit.proofs.Cases.{err_holds}
use Rattle.am_inhibit.proofs.Indexes.{source_joins, source_begins, written_at, written_same, joined_back, take_last}
use Rattle.am_inhibit.proofs.source_index.add_source.Goals as goal

pub returns-in_err-push-in-Some-clause-err : goal.returns-in_err-push-in-Some-clause-err
returns-in_err-push-in-Some-clause-err c = grind (arith, common_steps, err_holds, written_same)

pub returns-in_ok-push-in-Some-clause-added : goal.returns-in_ok-push-in-Some-clause-added
returns-in_ok-push-in-Some-clause-added c =
    let entries = c.args.sources.now.entries in
    let values = c.args.values in
    let at = c.in-Some.at in
    let old = c.index_mut.result.now in
    let found : position (same_values values) (keys_of entries) ≡ Some at = search rules in
    let here : lookup (same_values values) entries ≡ Some old = sym c.in-Some.ensures.value ∙ c.index_mut.ensures.value in
    ap (set_value_at entries at) c.in_ok-push-in-Some.ensures.pushed
    ∙ (written_at entries values (old ++ c.args.source ∷ []) at found ∙ source_joins entries values c.args.source old here)

pub returns-in_ok-push-in-Some-clause-undo : goal.returns-in_ok-push-in-Some-clause-undo
returns-in_ok-push-in-Some-clause-undo c = grind (arith, common_steps, joined_back)

begun : (c : goal.Joined-branch-4) → c.insert.new.self.entries ≡ c.args.sources.now.entries ++ (c.args.values, c.args.source ∷ []) ∷ []
begun c = grind (arith, common_steps, insert_entry-new)

pub returns-in_ok-insert-in-None-clause-added : goal.returns-in_ok-insert-in-None-clause-added
returns-in_ok-insert-in-None-clause-added c =
    let sources = c.args.sources.now in
    let none : get same_values sources c.args.values ≡ None = search rules in
    begun c ∙ sym (source_begins sources.entries c.args.values c.args.source none)

pub returns-in_ok-insert-in-None-clause-undo : goal.returns-in_ok-insert-in-None-clause-undo
returns-in_ok-insert-in-None-clause-undo c = search (rules, begun, take_last)
