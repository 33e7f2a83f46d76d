use Rattle.std.proofs.Common.{◌≡◌, ◌++◌, ◌+◌, length, get_or, take, length-drop, sym, ap, subst, ◌∙◌, arith}
use Rattle.std.proofs.lemmas.Grind.{common_steps}
use Rattle.std.proofs.lemmas.List.{append-nil, take_all, get_or-drop, take-append-drop}
use Rattle.std.specs.List.{slice_get}
use Rattle.am_labels.specs.LabelSets.{value_of}
use Rattle.am_routes.specs.Looking.{may_match}
use Rattle.am_routes.specs.inside.ChildIndexes.{filings, is_filed, is_kept, is_met, is_unfiled, CandidatesView, AreLeftOf, IsFirstFrom, IsIndexOf}
use Rattle.am_routes.proofs.ChildIndexes.{all_by-get, first-alike, first-either, first-left, met-more, met-may_match}
use Rattle.am_routes.proofs.candidates.Candidates.first_place.Goals as goal

pub loop-index-init : goal.loop-index-init
loop-index-init c =
    let v = c.args.self.now in
    let all = filings v.routes in
    let names = c.self.inside.names.now in
    let kept : AreLeftOf v.labels v.from v.routes c.self.inside.entries.now c.self.inside.unfiled.now c.self.inside.filed.now names =
    subst (λ (v : CandidatesView). AreLeftOf v.labels v.from v.routes c.self.inside.entries.now c.self.inside.unfiled.now c.self.inside.filed.now names) c.self.view_is c.self.invariant in
    let one : IsFirstFrom is_unfiled v.from all c.first_of.result =
    subst (IsFirstFrom is_unfiled v.from all) (sym (c.first_of.ensures ∙ ap (λ l. slice_get l 0) kept.1)) (first-left is_unfiled v.from all) in
    let other : IsFirstFrom (is_kept v.labels (take 1 names)) v.from all c.first_of-2.result =
    subst (IsFirstFrom (is_kept v.labels (take 1 names)) v.from all) (sym (c.first_of-2.ensures ∙ ap (λ l. slice_get l 0) kept.2)) (first-left (is_kept v.labels (take 1 names)) v.from all) in
    subst (λ l. IsFirstFrom (is_met v.labels l) v.from all c.earlier-first.result) (sym (append-nil (take 1 names)))
    (subst (IsFirstFrom (is_met v.labels (take 1 names)) v.from all) (sym c.earlier-first.ensures)
    (first-either is_unfiled (is_kept v.labels (take 1 names)) v.from all c.first_of.result c.first_of-2.result one other))

pub loop-index-preserved : goal.loop-index-preserved
loop-index-preserved c =
    let v = c.args.self.now in
    let all = filings v.routes in
    let names = c.self.inside.names.now in
    let items = c.others-index-items.result.now in
    let i = c.loop-index.index-index in
    let index = c.index-item.result in
    let name = index.name.now in
    let kept : AreLeftOf v.labels v.from v.routes c.self.inside.entries.now c.self.inside.unfiled.now c.self.inside.filed.now names =
    subst (λ (v : CandidatesView). AreLeftOf v.labels v.from v.routes c.self.inside.entries.now c.self.inside.unfiled.now c.self.inside.filed.now names) c.self.view_is c.self.invariant in
    let is : IsIndexOf all index = subst (IsIndexOf all) (sym (c.index-item.is ∙ (ap (λ l. get_or l i index) c.others-index-items.ensures ∙ get_or-drop 1 names i index))) (all_by-get (IsIndexOf all) names (1 + i) index kept.3.0 (omega (arith, ap length c.others-index-items.ensures, length-drop 1 names))) in
    let before = take 1 names ++ take i items in
    let own = is_filed name (value_of v.labels name) in
    let next : IsFirstFrom own v.from all c.next.result =
    subst (λ (v : CandidatesView). IsFirstFrom (is_filed name (value_of v.labels name)) v.from all c.next.result) c.self.view_is (c.next.ensures all is) in
    let both = first-either (is_met v.labels before) own v.from all c.loop-index.first c.next.result c.loop-index.invariant next in
    grind (arith, common_steps, first-alike, met-more)

pub returns : goal.returns
returns c =
    let v = c.args.self.now in
    let all = filings v.routes in
    let names = c.self.inside.names.now in
    let items = c.others-index-items.result.now in
    let i = c.loop-index.index-index in
    let kept : AreLeftOf v.labels v.from v.routes c.self.inside.entries.now c.self.inside.unfiled.now c.self.inside.filed.now names =
    subst (λ (v : CandidatesView). AreLeftOf v.labels v.from v.routes c.self.inside.entries.now c.self.inside.unfiled.now c.self.inside.filed.now names) c.self.view_is c.self.invariant in
    let whole : take 1 names ++ take i items ≡ names =
    ap (λ l. take 1 names ++ l) (take_all i items (omega arith) ∙ c.others-index-items.ensures) ∙ take-append-drop 1 names in
    first-alike (is_met v.labels (take 1 names ++ take i items)) (may_match v.labels) v.from all c.loop-index.first
    (λ k filing got. ap (λ l. is_met v.labels l filing) whole ∙ met-may_match v.labels names v.routes k filing kept.3.1 got) c.loop-index.invariant
