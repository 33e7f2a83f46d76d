use Rattle.std.proofs.Common.{rules, ◌≡◌, ◌++◌, ◌∷◌, [], ℕ, ◌+◌, ◌*◌, ◌<◌, ◌≤◌, Bool, true, false, not, ◌&&◌, None, Some, List, Option, length, get_or, min, refl, sym, ap, subst, ◌∙◌, arith}
use Rattle.std.proofs.lemmas.Grind.{common_steps}
use Rattle.std.proofs.lemmas.List.{append_assoc, append-nil, length-map}
use Rattle.std.specs.Option.{IfSome}
use Rattle.am_config.specs.declared.route.Route.{Route}
use Rattle.am_config.specs.Routes.{RouteView, Forest, no_routes, count_of}
use Rattle.am_config.specs.RouteLists.{route_view, forest_of}
use Rattle.am_labels.specs.LabelSets.{Labels}
use Rattle.am_matchers.specs.Matchers.{MatcherView, all_admitted}
use Rattle.am_routes.specs.declared.candidates.Child.{Child}
use Rattle.am_routes.specs.declared.child_entry.ChildEntry.{ChildEntry}
use Rattle.am_routes.specs.RouteAnswers.{answer_of}
use Rattle.am_routes.specs.Looking.{looked_from, routes_looked_at}
use Rattle.am_routes.specs.inside.ChildIndexes.{CandidatesView, child_view_of, IsChildOf, IsNextChild, other_matchers}
use Rattle.am_routes.specs.inside.Searches.{nodes_in, others_of, in_pre_order, BeginAt}
use Rattle.am_routes.proofs.Searching.{search-first, search-bound, search-below, others-decide, child-begins, child-fewer, drop-none, answer-first, pending_answer, pending_looked, pending_count, IsPending, some-left, next-answer, next-looked, next-pending, next-fewer, answer-stops, answer-goes_on, looked-stops, looked-goes_on, own-kept, answer-fails, looked-fails}
use Rattle.am_routes.proofs.matching.+ask.Goals as goal

-- what is kept of each route of a tree, of a route below the one that is asked
child_at : {X : Type 0} (of : RouteView → Forest → X) (number : ℕ) (r : Route) (child : Child) (all now : List X) → BeginAt number (in_pre_order of (forest_of (r ∷ []))) all → now ≡ all → IsChildOf r.children child
    → BeginAt (number + child.entry.offset) (in_pre_order of (forest_of (child.route.now ∷ []))) now
child_at of number r child all now begins same one =
    subst (BeginAt (number + child.entry.offset) (in_pre_order of (forest_of (child.route.now ∷ [])))) (sym same)
    (child-begins of number 1 r.children child.at (child_view_of child) all
    (search-below of number (route_view r) r.children no_routes all begins) one.0)

abbrev level : RouteView → Forest → Forest
level first below = below

abbrev other : RouteView → Forest → List MatcherView
other first below = other_matchers first.matchers

-- whether a route below the one that is asked matches
child_matches : (number : ℕ) (r : Route) (child : Child) (labels : Labels) (all now : List (List MatcherView)) (d : List MatcherView) → BeginAt number (others_of (forest_of (r ∷ []))) all → now ≡ all → IsPending labels r.children (Some child)
    → all_admitted child.route.now.matchers labels ≡ all_admitted (get_or now (number + child.entry.offset) d) labels
child_matches number r child labels all now d begins same pending =
    others-decide labels child.route.now.matchers pending.1
    ∙ ap (λ m. all_admitted m labels) (sym (search-first other (number + child.entry.offset) (route_view child.route.now) child.route.now.children no_routes now (child_at other number r child all now begins same pending.0) d))

-- the route that is asked next, after one
after_one : (labels : Labels) (f : Forest) (at : ℕ) (candidates : CandidatesView) (next : Option Child) → candidates ≡ record { labels = labels; from = at + 1; routes = f } → IsNextChild candidates.labels candidates.from candidates.routes next → IsNextChild labels (at + 1) f next
after_one labels f at candidates next is given = subst (λ (v : CandidatesView). IsNextChild v.labels v.from v.routes next) is given

-- and what is left after it
left_after : (labels : Labels) (f : Forest) (at : ℕ) (candidates new : CandidatesView) (next : Option Child) → candidates ≡ record { labels = labels; from = at; routes = f } → IfSome next (λ child. new ≡ record candidates { from = child.at + 1 }) → IfSome next (λ child. new ≡ record { labels = labels; from = child.at + 1; routes = f })
left_after labels f at candidates new None is given = tt
left_after labels f at candidates new (Some child) is given = given ∙ ap (λ (v : CandidatesView). record v { from = child.at + 1 }) is

pub ask_below-loop-next-init : goal.ask_below-loop-next-init
ask_below-loop-next-init t c =
    let labels = c.args.labels.now in
    let f = c.args.route.now.children in
    let number = c.args.number in
    let kids : c.index-levels-number.result ≡ f = c.index-levels-number.is ∙ search-first level number (route_view c.args.route.now) f no_routes c.args.levels.now c.requires.levels c.index-levels-number.result in
    let all : c.candidates-candidates.result ≡ record { labels = labels; from = 0; routes = f } =
    c.candidates-candidates.ensures ∙ ap (λ (f : Forest). record { labels = labels; from = 0; routes = f }) kids in
    let next : IsNextChild labels 0 f c.next-next.result = subst (λ (v : CandidatesView). IsNextChild v.labels v.from v.routes c.next-next.result) all c.next-next.ensures.next in
    record {
      pending = next-pending labels f 0 c.next-next.result next;
      left = left_after labels f 0 c.candidates-candidates.result c.next-next.new.self c.next-next.result all c.next-next.ensures.left;
      found = ap (λ l. nodes_in c.args.found.now.routes.items ++ l) (sym (next-answer labels number f 0 c.next-next.result next) ∙ answer-first labels number 1 f);
      looked = ap (λ n. min (c.args.found.now.looked + n) 18446744073709551615) (sym (next-looked labels f 0 c.next-next.result next) ∙ ap (looked_from labels) (drop-none f));
      same = refl;
    }

pub ask_below-overflow_add-at : goal.ask_below-overflow_add-at
ask_below-overflow_add-at t c =
    let child = c.in-Some.child in
    let r = child.route.now in
    let pending = subst (IsPending c.args.labels.now c.args.route.now.children) c.in-Some.is c.loop-next.invariant.pending in
    let begins = child_at other c.args.number c.args.route.now child c.args.others.now c.loop-next.others c.requires.others c.loop-next.invariant.same pending.0 in
    let bound : c.args.number + child.entry.offset + 1 + count_of r.children ≤ length c.loop-next.others = search-bound other (c.args.number + child.entry.offset) (route_view r) r.children no_routes c.loop-next.others begins in
    search rules

pub ask_below-others_admit-requires : goal.ask_below-others_admit-requires
ask_below-others_admit-requires t c =
    let child = c.in-Some.child in
    let pending = subst (IsPending c.args.labels.now c.args.route.now.children) c.in-Some.is c.loop-next.invariant.pending in
    let begins = child_at other c.args.number c.args.route.now child c.args.others.now c.loop-next.others c.requires.others c.loop-next.invariant.same pending.0 in
    grind (arith, common_steps, search-first)

pub ask_below-ask-requires : goal.ask_below-ask-requires
ask_below-ask-requires t c =
    let labels = c.args.labels.now in
    let number = c.args.number in
    let child = c.in-Some.child in
    let r = child.route.now in
    let f = c.args.route.now.children in
    let d : List MatcherView = [] in
    let pending = subst (IsPending labels f) c.in-Some.is c.loop-next.invariant.pending in
    let fewer : count_of r.children < count_of f = child-fewer 1 f child.at (child_view_of child) pending.0.0 in
    let depth : 2 * count_of f ≡ t = c.decreases in
    let falls : 2 * count_of r.children + 1 < t = omega (arith, fewer) in
    let others : c.others_admit.new.others ≡ c.loop-next.others = c.others_admit.ensures.same in
    let matches : all_admitted r.matchers labels ≡ true =
    child_matches number c.args.route.now child labels c.args.others.now c.loop-next.others d c.requires.others c.loop-next.invariant.same pending
    ∙ (sym c.others_admit.ensures.answer ∙ c.if-not-others_admit.false) in (
      falls,
      (
        ap (λ (e : ChildEntry). e.is_leaf) pending.0.1,
        (
          child_at level number c.args.route.now child c.args.levels.now c.args.levels.now c.requires.levels refl pending.0,
          (child_at other number c.args.route.now child c.args.others.now _ c.requires.others (others ∙ c.loop-next.invariant.same) pending.0, matches),
        ),
      ),
    )

pub ask_below-loop-next-smaller-then-not-others_admit : goal.ask_below-loop-next-smaller-then-not-others_admit
ask_below-loop-next-smaller-then-not-others_admit t c =
    let labels = c.args.labels.now in
    let child = c.in-Some.child in
    let f = c.args.route.now.children in
    let pending = subst (IsPending labels f) c.in-Some.is c.loop-next.invariant.pending in
    let left = subst (λ next. IfSome next (λ child. c.loop-next.candidates ≡ record { labels = labels; from = child.at + 1; routes = f })) c.in-Some.is c.loop-next.invariant.left in
    let after = c.next-next-then-not-others_admit.result in
    let next = after_one labels f child.at c.loop-next.candidates after left c.next-next-then-not-others_admit.ensures.next in
    subst (λ one. pending_count f after < pending_count f one) (sym c.in-Some.is) (next-fewer labels f child after pending.0 next)

pub ask_below-loop-next-smaller-then-child : goal.ask_below-loop-next-smaller-then-child
ask_below-loop-next-smaller-then-child t c =
    let labels = c.args.labels.now in
    let child = c.in-Some.child in
    let f = c.args.route.now.children in
    let pending = subst (IsPending labels f) c.in-Some.is c.loop-next.invariant.pending in
    let left = subst (λ next. IfSome next (λ child. c.loop-next.candidates ≡ record { labels = labels; from = child.at + 1; routes = f })) c.in-Some.is c.loop-next.invariant.left in
    let after = c.next.result in
    let next = after_one labels f child.at c.loop-next.candidates after left c.next.ensures.next in
    subst (λ one. pending_count f after < pending_count f one) (sym c.in-Some.is) (next-fewer labels f child after pending.0 next)

pub ask_below-loop-next-smaller : goal.ask_below-loop-next-smaller
ask_below-loop-next-smaller t c = grind (arith, common_steps, pending_count, some-left)

pub ask_below-loop-next-preserved-then-not-others_admit : goal.ask_below-loop-next-preserved-then-not-others_admit
ask_below-loop-next-preserved-then-not-others_admit t c =
    let labels = c.args.labels.now in
    let number = c.args.number in
    let child = c.in-Some.child in
    let r = child.route.now in
    let f = c.args.route.now.children in
    let d : List MatcherView = [] in
    let pending = subst (IsPending labels f) c.in-Some.is c.loop-next.invariant.pending in
    let left = subst (λ next. IfSome next (λ child. c.loop-next.candidates ≡ record { labels = labels; from = child.at + 1; routes = f })) c.in-Some.is c.loop-next.invariant.left in
    let after = c.next-next-then-not-others_admit.result in
    let next = after_one labels f child.at c.loop-next.candidates after left c.next-next-then-not-others_admit.ensures.next in
    let others : c.others_admit.new.others ≡ c.loop-next.others = c.others_admit.ensures.same in
    let refused : all_admitted r.matchers labels ≡ false =
    child_matches number c.args.route.now child labels c.args.others.now c.loop-next.others d c.requires.others c.loop-next.invariant.same pending
    ∙ (sym c.others_admit.ensures.answer ∙ c.if-not-others_admit.true) in
    let old = nodes_in c.loop-next.found.routes.items in
    let counted : pending_looked labels f (Some child) ≡ 1 + pending_looked labels f after = looked-fails labels number f child pending.0 after pending.1 refused next in
    let before : min (c.loop-next.found.looked + pending_looked labels f (Some child)) 18446744073709551615 ≡ min (c.args.found.now.looked + looked_from labels f) 18446744073709551615 =
    ap (λ n. min (c.loop-next.found.looked + pending_looked labels f n) 18446744073709551615) (sym c.in-Some.is) ∙ c.loop-next.invariant.looked in
    let one : c.saturating_add-found.result ≡ min (c.loop-next.found.looked + 1) 18446744073709551615 = c.saturating_add-found.ensures in
    record {
      pending = next-pending labels f (child.at + 1) after next;
      left = left_after labels f (child.at + 1) c.loop-next.candidates c.next-next-then-not-others_admit.new.self after left c.next-next-then-not-others_admit.ensures.left;
      found = ap (λ l. old ++ l) (sym (answer-fails labels number f child pending.0 after refused next))
          ∙ (ap (λ n. old ++ pending_answer labels number f n) (sym c.in-Some.is) ∙ c.loop-next.invariant.found);
      looked = omega (arith, counted, before, one);
      same = others ∙ c.loop-next.invariant.same;
    }

pub ask_below-loop-next-preserved-then-child : goal.ask_below-loop-next-preserved-then-child
ask_below-loop-next-preserved-then-child t c =
    let labels = c.args.labels.now in
    let number = c.args.number in
    let child = c.in-Some.child in
    let r = child.route.now in
    let f = c.args.route.now.children in
    let d : List MatcherView = [] in
    let pending = subst (IsPending labels f) c.in-Some.is c.loop-next.invariant.pending in
    let left = subst (λ next. IfSome next (λ child. c.loop-next.candidates ≡ record { labels = labels; from = child.at + 1; routes = f })) c.in-Some.is c.loop-next.invariant.left in
    let after = c.next.result in
    let next = after_one labels f child.at c.loop-next.candidates after left c.next.ensures.next in
    let others : c.others_admit.new.others ≡ c.loop-next.others = c.others_admit.ensures.same in
    let more : (all_admitted r.matchers labels && not r.continues) ≡ false = goes_on (all_admitted r.matchers labels) r.continues (sym (ap (λ (e : ChildEntry). e.continues) pending.0.1) ∙ c.if-child.true) in
    let old = nodes_in c.loop-next.found.routes.items in
    let own = answer_of labels (number + child.entry.offset) (forest_of (r ∷ [])) in
    let goes = answer-goes_on labels number f child pending.0 after more next in
    let counted : pending_looked labels f (Some child) ≡ 1 + (routes_looked_at labels (forest_of (r ∷ [])) + pending_looked labels f after) = looked-goes_on labels number f child pending.0 after pending.1 more next in
    let before : min (c.loop-next.found.looked + pending_looked labels f (Some child)) 18446744073709551615 ≡ min (c.args.found.now.looked + looked_from labels f) 18446744073709551615 =
    ap (λ n. min (c.loop-next.found.looked + pending_looked labels f n) 18446744073709551615) (sym c.in-Some.is) ∙ c.loop-next.invariant.looked in
    let asked : min c.ask.new.found.looked 18446744073709551615 ≡ min (c.saturating_add-found.result + routes_looked_at labels (forest_of (r ∷ []))) 18446744073709551615 = c.in_ok-ask.ensures.looked in
    let one : c.saturating_add-found.result ≡ min (c.loop-next.found.looked + 1) 18446744073709551615 = c.saturating_add-found.ensures in
    record {
      pending = next-pending labels f (child.at + 1) after next;
      left = left_after labels f (child.at + 1) c.loop-next.candidates c.next.new.self after left c.next.ensures.left;
      found = ap (λ l. l ++ pending_answer labels number f after) c.in_ok-ask.ensures.found
          ∙ (append_assoc old own (pending_answer labels number f after)
          ∙ (ap (λ l. old ++ l) (sym goes)
          ∙ (ap (λ n. old ++ pending_answer labels number f n) (sym c.in-Some.is) ∙ c.loop-next.invariant.found)));
      looked = omega (arith, counted, before, asked, one);
      same = c.in_ok-ask.ensures.same ∙ (others ∙ c.loop-next.invariant.same);
    }
  where
    goes_on : (a b : Bool) → b ≡ true → (a && not b) ≡ false
    goes_on true true e = refl
    goes_on true false e = absurd (cc)
    goes_on false b e = refl

pub ask_below-loop-next-preserved : goal.ask_below-loop-next-preserved
ask_below-loop-next-preserved t c =
    search (rules, child_matches, answer-stops, pending_looked, looked-stops, append-nil, pending_answer)

pub ask_below-returns-else-len-had-clause-found : goal.ask_below-returns-else-len-had-clause-found
ask_below-returns-else-len-had-clause-found t c = grind (arith, common_steps, append-nil, pending_answer, length-map, own-kept)
