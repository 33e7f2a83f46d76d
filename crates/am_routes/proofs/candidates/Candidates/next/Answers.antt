use Rattle.std.proofs.Common.{rules, ◌≡◌, ◌<◌, ℕ, false, List, Some, length, get_or, sym, ap, subst, ◌∙◌, arith}
use Rattle.std.proofs.lemmas.Grind.{common_steps}
use Rattle.std.proofs.lemmas.Option.{slice_get_within}
use Rattle.am_config.specs.declared.route.Route.{Route}
use Rattle.am_config.specs.RouteLists.{forest_of}
use Rattle.am_routes.specs.declared.child_entry.ChildEntry.{ChildEntry}
use Rattle.am_routes.specs.Looking.{may_match}
use Rattle.am_routes.specs.inside.ChildIndexes.{entries_from, filings, CandidatesView, IsFirstFrom}
use Rattle.std.proofs.lemmas.List.{get_or_default}
use Rattle.am_routes.proofs.ChildIndexes.{child-at, length-filings, length-entries, left-after, seen}
use Rattle.am_routes.proofs.candidates.Candidates.next.Goals as goal

within : (v : CandidatesView) (rs : List Route) (at : ℕ) → forest_of rs ≡ v.routes → IsFirstFrom (may_match v.labels) v.from (filings v.routes) (Some at) → at < length rs
within v rs at is first = grind (arith, common_steps, slice_get_within, length-filings)

pub overflow_add-self : goal.overflow_add-self
overflow_add-self c =
    let early : c.in_ok-at.at < length c.self.inside.routes.now = within c.args.self.now c.self.inside.routes.now c.in_ok-at.at (ap (λ (v : CandidatesView). v.routes) c.self.view_is) c.in_ok-at.ensures in
    search rules

pub offset_bounds-self-inside-at : goal.offset_bounds-self-inside-at
offset_bounds-self-inside-at c =
    let rs = c.self.inside.routes.now in
    let early : c.in_ok-at.at < length rs = within c.args.self.now rs c.in_ok-at.at (ap (λ (v : CandidatesView). v.routes) c.self.view_is) c.in_ok-at.ensures in
    search rules

pub bounds-self-inside-at : goal.bounds-self-inside-at
bounds-self-inside-at c =
    let rs = c.self.inside.routes.now in
    let early : c.in_ok-at.at < length rs = within c.args.self.now rs c.in_ok-at.at (ap (λ (v : CandidatesView). v.routes) c.self.view_is) c.in_ok-at.ensures in
    omega (arith, ap length c.self.invariant.0, length-entries 1 rs)

pub offset_bounds-self-inside-at-2 : goal.offset_bounds-self-inside-at-2
offset_bounds-self-inside-at-2 c =
    let early : c.in_ok-at.at < length c.self.inside.routes.now = within c.args.self.now c.self.inside.routes.now c.in_ok-at.at (ap (λ (v : CandidatesView). v.routes) c.self.view_is) c.in_ok-at.ensures in
    search rules

pub bounds-self-inside-at-2 : goal.bounds-self-inside-at-2
bounds-self-inside-at-2 c = within c.args.self.now c.self.inside.routes.now c.in_ok-at.at (ap (λ (v : CandidatesView). v.routes) c.self.view_is) c.in_ok-at.ensures

pub invariant_of-self : goal.invariant_of-self
invariant_of-self c =
    let inside = c.self.inside in
    let first : IsFirstFrom (may_match inside.labels.now) inside.from (filings (forest_of inside.routes.now)) (Some c.in_ok-at.at) =
    subst (λ (v : CandidatesView). IsFirstFrom (may_match v.labels) v.from (filings v.routes) (Some c.in_ok-at.at)) (sym c.self.view_is) c.in_ok-at.ensures in
    let left = left-after inside.labels.now inside.from (forest_of inside.routes.now) inside.entries.now inside.unfiled.now inside.filed.now inside.names.now c.in_ok-at.at c.self.invariant first in
    (left.0, c.without-self-inside.ensures ∙ left.1, c.without-self-inside-2.ensures ∙ left.2, left.3)

pub returns-clause-next : goal.returns-clause-next
returns-clause-next c =
    let rs = c.self.inside.routes.now in
    let at = c.in_ok-at.at in
    let r = c.index-self-at.result in
    let routes : forest_of rs ≡ c.args.self.now.routes = ap (λ (v : CandidatesView). v.routes) c.self.view_is in
    let early : at < length rs = within c.args.self.now rs at routes c.in_ok-at.ensures in
    let entries = c.self.inside.entries.now in
    let long : at < length entries = omega (arith, ap length c.self.invariant.0, length-entries 1 rs) in
    let none : ChildEntry = record { offset = 0; is_settled = false; is_leaf = false; continues = false } in
    let own = get_or entries at none in
    let comes : own ≡ get_or (entries_from 1 (forest_of rs)) at own = get_or_default entries at none own long ∙ ap (λ l. get_or l at own) c.self.invariant.0 in
    let one = child-at 1 rs at r own early c.index-self-at.is comes in
    grind (arith, common_steps, seen)
