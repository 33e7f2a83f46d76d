-- A tree's searches in pre-order, and what asking them one after another comes to.
use Rattle.std.proofs.Common.{◌≡◌, ◌≢◌, ℕ, zero, suc, ◌+◌, ◌-◌, ◌<◌, ◌≤◌, Bool, true, false, not, ◌&&◌, cond, List, [], ◌∷◌, ◌++◌, Option, Some, None, length, take, drop, get_or, set, refl, sym, ap, subst, ◌∙◌, arith, length-append, rules}
use Rattle.std.proofs.lemmas.List.{append_assoc, append-nil, drop_more, drop-drop, drop_at, take_more, set_at, set-get_or}
use Rattle.std.specs.List.{slice_get}
use Rattle.std.specs.Option.{IfSome}
use Rattle.std.proofs.lemmas.Option.{slice_get_within}
use Rattle.am_routes.specs.declared.candidates.Child.{Child}
use Rattle.am_config.specs.declared.route.Route.{Route}
use Rattle.am_labels.specs.LabelSets.{Labels}
use Rattle.am_matchers.specs.Matchers.{MatcherView, all_admitted}
use Rattle.am_config.specs.Routes.{RouteView, Forest, no_routes, route, count_of}
use Rattle.am_config.specs.RouteLists.{route_view, forest_of}
use Rattle.am_routes.specs.RouteAnswers.{Node, own_answer, joined_with, answer_of}
use Rattle.am_routes.specs.Looking.{first_equality, may_match, looked_from, routes_looked_at}
use Rattle.am_routes.specs.inside.ChildIndexes.{ChildView, children_from, filings, drop_routes, offset_at, child_view_of, IsChildOf, IsNextChild, other_matchers}
use Rattle.am_routes.specs.inside.Searches.{in_pre_order, levels_of, BeginAt}
use Rattle.am_routes.proofs.ChildIndexes.{filed-fails, same-along}

module _ {X : Type 0} (of : RouteView → Forest → X) where
  pub length-in_pre_order : (f : Forest) → length (in_pre_order of f) ≡ count_of f
  length-in_pre_order no_routes = refl
  length-in_pre_order (route first below others) =
      omega (arith, length-append (in_pre_order of below) (in_pre_order of others), length-in_pre_order below, length-in_pre_order others)

  in_pre_order-push : (rs : List Route) (r : Route) → in_pre_order of (forest_of (rs ++ r ∷ [])) ≡ in_pre_order of (forest_of rs) ++ in_pre_order of (forest_of (r ∷ []))
  in_pre_order-push [] r = refl
  in_pre_order-push (one ∷ rs) r = let rest = in_pre_order-push rs r in grind (arith, append_assoc)

  -- the routes so far with one more
  pub in_pre_order-more : (rs : List Route) (i : ℕ) (r : Route) → i < length rs → r ≡ get_or rs i r → in_pre_order of (forest_of (take i rs)) ++ in_pre_order of (forest_of (r ∷ [])) ≡ in_pre_order of (forest_of (take (i + 1) rs))
  in_pre_order-more rs i r early is =
      sym (ap (λ l. in_pre_order of (forest_of l)) (take_more rs i r early ∙ ap (λ one. take i rs ++ one ∷ []) (sym is)) ∙ in_pre_order-push (take i rs) r)

-- a route has fewer below it than there are in a list that it is of
pub count-below : (rs : List Route) (i : ℕ) (d : Route) → i < length rs → count_of (get_or rs i d).children < count_of (forest_of rs)
count-below [] i d h = absurd (omega arith)
count-below (r ∷ rs) zero d h = omega arith
count-below (r ∷ rs) (suc i) d h = let rest : count_of (get_or rs i d).children < count_of (forest_of rs) = count-below rs i d (omega arith) in omega arith

head_at : {X : Type 0} (at : ℕ) (all tail : List X) (one d : X) → drop at all ≡ one ∷ tail → (get_or all at d ≡ one) × (drop (at + 1) all ≡ tail) × (at + 1 + length tail ≡ length all)
head_at zero all tail one d e = (ap (λ l. get_or l 0 d) e, ap (drop 1) e, omega (arith, ap length e))
head_at (suc at) [] tail one d e = absurd (cc)
head_at (suc at) (first ∷ all) tail one d e = let rest = head_at at all tail one d in grind arith

module _ {X : Type 0} (of : RouteView → Forest → X) where
  module _ (at : ℕ) (first : RouteView) (below others : Forest) (all : List X) (begins : BeginAt at (in_pre_order of (route first below others)) all) where
    abbrev behind : List X
    behind = (in_pre_order of below ++ in_pre_order of others) ++ begins.0

    pub search-first : (d : X) → get_or all at d ≡ of first below
    search-first d = (head_at at all behind (of first below) d begins.1).0

    after : drop (at + 1) all ≡ behind
    after = (head_at at all behind (of first below) (of first below) begins.1).1

    pub search-bound : at + 1 + count_of below ≤ length all
    search-bound =
        let long = (head_at at all behind (of first below) (of first below) begins.1).2 in
        omega (arith, long, length-append (in_pre_order of below ++ in_pre_order of others) begins.0, length-append (in_pre_order of below) (in_pre_order of others), length-in_pre_order of below)

    pub search-below : BeginAt (at + 1) (in_pre_order of below) all
    search-below = (in_pre_order of others ++ begins.0, after ∙ append_assoc (in_pre_order of below) (in_pre_order of others) begins.0)

    pub search-others : BeginAt (at + 1 + count_of below) (in_pre_order of others) all
    search-others = (
      begins.0,
      sym (drop-drop (count_of below) (at + 1) all)
          ∙ (ap (drop (count_of below)) (after ∙ append_assoc (in_pre_order of below) (in_pre_order of others) begins.0)
          ∙ drop_at (in_pre_order of below) (in_pre_order of others ++ begins.0) (count_of below) (length-in_pre_order of below)),
    )

    pub search-alone : BeginAt at (in_pre_order of (route first below no_routes)) all
    search-alone = (
      in_pre_order of others ++ begins.0,
      begins.1
          ∙ (ap (λ l. of first below ∷ l) (append_assoc (in_pre_order of below) (in_pre_order of others) begins.0)
          ∙ ap (λ l. of first below ∷ (l ++ (in_pre_order of others ++ begins.0))) (sym (append-nil (in_pre_order of below)))),
    )

  -- what is kept of a route below one begins as far after the one's own as the route comes
  pub child-begins : (number offset : ℕ) (f : Forest) (at : ℕ) (child : ChildView) (all : List X) → BeginAt (number + offset) (in_pre_order of f) all → slice_get (children_from offset f) at ≡ Some child
      → BeginAt (number + child.offset) (in_pre_order of (route child.first child.below no_routes)) all
  child-begins number offset no_routes at child all begins is = absurd (cc)
  child-begins number offset (route first below others) zero child all begins is =
      let here : record { offset = offset; first = first; below = below } ≡ child = (cc) in
      subst (λ (child : ChildView). BeginAt (number + child.offset) (in_pre_order of (route child.first child.below no_routes)) all) here (search-alone (number + offset) first below others all begins)
  child-begins number offset (route first below others) (suc at) child all begins is =
      let on : number + offset + 1 + count_of below ≡ number + (offset + 1 + count_of below) = omega arith in
      child-begins number (offset + 1 + count_of below) others at child all (subst (λ n. BeginAt n (in_pre_order of others) all) on (search-others (number + offset) first below others all begins)) is

-- the routes from an index on
pub forest-drop : (rs : List Route) (i : ℕ) (r : Route) → i < length rs → r ≡ get_or rs i r → forest_of (drop i rs) ≡ route (route_view r) r.children (forest_of (drop (i + 1) rs))
forest-drop rs i r h is = ap forest_of (drop_more rs i r h ∙ ap (λ one. one ∷ drop (i + 1) rs) (sym is))

-- matchers that are asked stay as they are
pub asked : (others : List (List MatcherView)) (at : ℕ) (one d : List MatcherView) → one ≡ get_or others at d → set others at one ≡ others
asked others at one d same = ap (set others at) same ∙ set-get_or others at d

-- a route matches if the index gave it and its other matchers admit the label set
pub matchers-split : (labels : Labels) (matchers : List MatcherView) → all_admitted matchers labels ≡ (may_match labels (first_equality matchers) && all_admitted (other_matchers matchers) labels)
matchers-split labels [] = refl
matchers-split labels (one ∷ matchers) = let rest = matchers-split labels matchers in grind arith

pub others-decide : (labels : Labels) (matchers : List MatcherView) → may_match labels (first_equality matchers) ≡ true → all_admitted matchers labels ≡ all_admitted (other_matchers matchers) labels
others-decide labels matchers may = matchers-split labels matchers ∙ ap (λ b. b && all_admitted (other_matchers matchers) labels) may

-- ---- what one route adds

joined_nothing : (own : List Node) (continues : Bool) → joined_with own continues [] ≡ own
joined_nothing [] continues = refl
joined_nothing (node ∷ nodes) continues = elim continues as (λ b. node ∷ nodes ++ cond b [] [] ≡ node ∷ nodes) [ true ↦ append-nil (node ∷ nodes) | false ↦ append-nil (node ∷ nodes) ]

module _ (labels : Labels) (at : ℕ) (first : RouteView) (below others : Forest) where
  abbrev rest : List Node
  rest = answer_of labels (at + 1 + count_of below) others

  abbrev alone : List Node
  alone = answer_of labels at (route first below no_routes)

  abbrev found : List Node
  found = answer_of labels (at + 1) below

  own_alone : alone ≡ own_answer labels at first found
  own_alone = joined_nothing (own_answer labels at first found) first.continues

  -- a route whose matchers fail answers nothing
  pub alone-fails : all_admitted first.matchers labels ≡ false → answer_of labels at (route first below no_routes) ≡ []
  alone-fails refused = grind arith

  pub alone-below : all_admitted first.matchers labels ≡ true → 0 < length (answer_of labels (at + 1) below) → answer_of labels at (route first below no_routes) ≡ answer_of labels (at + 1) below
  alone-below admits some = grind (arith, own_alone)

  -- after one that matches and doesn't continue no more are asked
  pub alone-stops : all_admitted first.matchers labels ≡ true → first.continues ≡ false → answer_of labels at (route first below others) ≡ answer_of labels at (route first below no_routes)
  alone-stops admits last = grind arith

  -- after any other the next ones are
  pub alone-goes_on : (all_admitted first.matchers labels && not first.continues) ≡ false → answer_of labels at (route first below others) ≡ answer_of labels at (route first below no_routes) ++ answer_of labels (at + 1 + count_of below) others
  alone-goes_on more = grind (arith, own_alone, alone-fails)

-- ---- passing over routes that can't match

pub drop-none : (f : Forest) → drop_routes 0 f ≡ f
drop-none no_routes = refl
drop-none (route first below others) = refl

offset_none : (offset : ℕ) (f : Forest) → offset_at 0 offset f ≡ offset
offset_none offset no_routes = refl
offset_none offset (route first below others) = refl

-- the answer of the routes from an index on
abbrev pub answer_from : Labels → ℕ → ℕ → Forest → ℕ → List Node
answer_from labels number offset f at = answer_of labels (number + offset_at at offset f) (drop_routes at f)

pub answer-first : (labels : Labels) (number offset : ℕ) (f : Forest) → answer_from labels number offset f 0 ≡ answer_of labels (number + offset) f
answer-first labels number offset f = ap (λ n. answer_of labels (number + n) (drop_routes 0 f)) (offset_none offset f) ∙ ap (answer_of labels (number + offset)) (drop-none f)

-- the route at an index, and those after it
pub at-child : (offset : ℕ) (f : Forest) (at : ℕ) (child : ChildView) → slice_get (children_from offset f) at ≡ Some child
    → (drop_routes at f ≡ route child.first child.below (drop_routes (suc at) f)) × (offset_at at offset f ≡ child.offset) × (offset_at (suc at) offset f ≡ child.offset + 1 + count_of child.below)
at-child offset no_routes at child is = absurd (cc)
at-child offset (route first below others) zero child is = grind (arith, drop-none, offset_none)
at-child offset (route first below others) (suc at) child is = at-child (offset + 1 + count_of below) others at child is

-- one that can't match adds nothing
pub answer-passed : (labels : Labels) (number offset : ℕ) (f : Forest) (at : ℕ) → ((filing : Option MatcherView) → slice_get (filings f) at ≡ Some filing → may_match labels filing ≡ false)
    → answer_from labels number offset f at ≡ answer_from labels number offset f (suc at)
answer-passed labels number offset no_routes at fails = refl
answer-passed labels number offset (route first below others) zero fails =
    grind (arith, filed-fails, alone-goes_on, alone-fails, answer-first)
answer-passed labels number offset (route first below others) (suc at) fails = answer-passed labels number (offset + 1 + count_of below) others at fails

pub looked-passed : (labels : Labels) (f : Forest) (at : ℕ) → ((filing : Option MatcherView) → slice_get (filings f) at ≡ Some filing → may_match labels filing ≡ false)
    → looked_from labels (drop_routes at f) ≡ looked_from labels (drop_routes (suc at) f)
looked-passed labels no_routes at fails = refl
looked-passed labels (route first below others) zero fails = grind (arith, drop-none)
looked-passed labels (route first below others) (suc at) fails = looked-passed labels others at fails

pub drop-past : (f : Forest) (at : ℕ) → length (filings f) ≤ at → drop_routes at f ≡ no_routes
drop-past no_routes at past = refl
drop-past (route first below others) zero past = absurd (omega arith)
drop-past (route first below others) (suc at) past = drop-past others at (omega arith)

-- ---- the route that is asked next

-- what it and those after it answer
abbrev pub pending_answer : Labels → ℕ → Forest → Option Child → List Node
pending_answer labels number below None = []
pending_answer labels number below (Some child) = answer_of labels (number + child.entry.offset) (drop_routes child.at below)

-- how many of them are looked at
abbrev pub pending_looked : Labels → Forest → Option Child → ℕ
pending_looked labels below None = 0
pending_looked labels below (Some child) = looked_from labels (drop_routes child.at below)

-- it is one of the routes, and it may match
abbrev pub IsPending : Labels → Forest → Option Child → Type 0
IsPending labels below next = IfSome next (λ child. IsChildOf below child × (may_match labels (first_equality child.route.now.matchers) ≡ true))

-- how many routes may be asked yet
abbrev pub pending_count : Forest → Option Child → ℕ
pending_count below None = 0
pending_count below (Some child) = length (filings below) - child.at

filing_of_child : (offset : ℕ) (f : Forest) (at : ℕ) (child : ChildView) → slice_get (children_from offset f) at ≡ Some child → slice_get (filings f) at ≡ Some (first_equality child.first.matchers)
filing_of_child offset no_routes at child is = absurd (cc)
filing_of_child offset (route first below others) zero child is = grind arith
filing_of_child offset (route first below others) (suc at) child is = filing_of_child (offset + 1 + count_of below) others at child is

-- the routes from an index on come to what the next one does with those after it
pub next-answer : (labels : Labels) (number : ℕ) (f : Forest) (from : ℕ) (next : Option Child) → IsNextChild labels from f next → answer_from labels number 1 f from ≡ pending_answer labels number f next
next-answer labels number f from None is =
    let end = from + length (filings f) in
    same-along (answer_from labels number 1 f) from (length (filings f)) (λ k h less. answer-passed labels number 1 f k (λ filing got. is.0 k filing h got))
    ∙ ap (answer_of labels (number + offset_at end 1 f)) (drop-past f end (omega arith))
next-answer labels number f from (Some child) is =
    let steps = child.at - from in
    let on : from + steps ≡ child.at = omega (arith, is.0.0) in
    let here = at-child 1 f child.at (child_view_of child) is.1.0 in
    same-along (answer_from labels number 1 f) from steps (λ k h less. answer-passed labels number 1 f k (λ filing got. is.0.2 k filing h (omega arith) got))
    ∙ (ap (answer_from labels number 1 f) on ∙ ap (λ n. answer_of labels (number + n) (drop_routes child.at f)) here.1)

pub next-looked : (labels : Labels) (f : Forest) (from : ℕ) (next : Option Child) → IsNextChild labels from f next → looked_from labels (drop_routes from f) ≡ pending_looked labels f next
next-looked labels f from None is =
    same-along (λ k. looked_from labels (drop_routes k f)) from (length (filings f)) (λ k h less. looked-passed labels f k (λ filing got. is.0 k filing h got))
    ∙ ap (looked_from labels) (drop-past f (from + length (filings f)) (omega arith))
next-looked labels f from (Some child) is =
    let steps = child.at - from in
    let on : from + steps ≡ child.at = omega (arith, is.0.0) in
    same-along (λ k. looked_from labels (drop_routes k f)) from steps (λ k h less. looked-passed labels f k (λ filing got. is.0.2 k filing h (omega arith) got))
    ∙ ap (λ k. looked_from labels (drop_routes k f)) on

pub next-pending : (labels : Labels) (f : Forest) (from : ℕ) (next : Option Child) → IsNextChild labels from f next → IsPending labels f next
next-pending labels f from None is = tt
next-pending labels f from (Some child) is =
    let same : Some is.0.1.0 ≡ Some (first_equality child.route.now.matchers) = sym is.0.1.1 ∙ filing_of_child 1 f child.at (child_view_of child) is.1.0 in
    let filing : is.0.1.0 ≡ first_equality child.route.now.matchers = (cc) in
    (is.1, ap (may_match labels) (sym filing) ∙ is.0.1.2)

-- one that is asked has a route at its index
pub child-within : (f : Forest) (child : Child) → IsChildOf f child → child.at < length (filings f)
child-within f child one = slice_get_within (filings f) child.at (first_equality child.route.now.matchers) (filing_of_child 1 f child.at (child_view_of child) one.0)

pub some-left : (f : Forest) (child : Child) → IsChildOf f child → 0 < pending_count f (Some child)
some-left f child one = let within : child.at < length (filings f) = child-within f child one in omega arith

-- and has fewer below it than there are
pub child-fewer : (offset : ℕ) (f : Forest) (at : ℕ) (child : ChildView) → slice_get (children_from offset f) at ≡ Some child → count_of child.below < count_of f
child-fewer offset no_routes at child is = absurd (cc)
child-fewer offset (route first below others) zero child is = grind arith
child-fewer offset (route first below others) (suc at) child is =
    let rest : count_of child.below < count_of others = child-fewer (offset + 1 + count_of below) others at child is in omega arith

-- fewer are left after an index
pub next-fewer : (labels : Labels) (f : Forest) (child : Child) (next : Option Child) → IsChildOf f child → IsNextChild labels (child.at + 1) f next → pending_count f next < pending_count f (Some child)
next-fewer labels f child None one is = grind (arith, child-within)
next-fewer labels f child (Some next) one is = grind (arith, child-within)

-- ---- a step of asking the routes below one

module _ (labels : Labels) (number : ℕ) (f : Forest) (child : Child) (is : IsChildOf f child) where
  abbrev pub r : Route
  r = child.route.now

  abbrev others : Forest
  others = drop_routes (suc child.at) f

  here : (drop_routes child.at f ≡ route (route_view r) r.children others) × (offset_at child.at 1 f ≡ child.entry.offset) × (offset_at (suc child.at) 1 f ≡ child.entry.offset + 1 + count_of r.children)
  here = at-child 1 f child.at (child_view_of child) is.0

  -- the last one that is asked
  pub answer-stops : all_admitted r.matchers labels ≡ true → r.continues ≡ false → pending_answer labels number f (Some child) ≡ answer_of labels (number + child.entry.offset) (forest_of (r ∷ []))
  answer-stops admits last = grind (arith, here, alone-stops)

  -- one after which the next is asked
  pub answer-goes_on : (next : Option Child) → (all_admitted r.matchers labels && not r.continues) ≡ false → IsNextChild labels (child.at + 1) f next
      → pending_answer labels number f (Some child) ≡ answer_of labels (number + child.entry.offset) (forest_of (r ∷ [])) ++ pending_answer labels number f next
  answer-goes_on next more following =
      let own = answer_of labels (number + child.entry.offset) (forest_of (r ∷ [])) in
      let on : number + child.entry.offset + 1 + count_of r.children ≡ number + offset_at (suc child.at) 1 f = omega (arith, here.2) in
      let index : suc child.at ≡ child.at + 1 = omega arith in
      ap (answer_of labels (number + child.entry.offset)) here.0
      ∙ (alone-goes_on labels (number + child.entry.offset) (route_view r) r.children others more
      ∙ (ap (λ n. own ++ answer_of labels n others) on
      ∙ (ap (λ k. own ++ answer_from labels number 1 f k) index
      ∙ ap (λ l. own ++ l) (next-answer labels number f (child.at + 1) next following))))

  pub looked-stops : may_match labels (first_equality r.matchers) ≡ true → (all_admitted r.matchers labels && not r.continues) ≡ true → pending_looked labels f (Some child) ≡ 1 + routes_looked_at labels (forest_of (r ∷ []))
  looked-stops may last = grind (arith, here)

  pub looked-goes_on : (next : Option Child) → may_match labels (first_equality r.matchers) ≡ true → (all_admitted r.matchers labels && not r.continues) ≡ false → IsNextChild labels (child.at + 1) f next
      → pending_looked labels f (Some child) ≡ 1 + (routes_looked_at labels (forest_of (r ∷ [])) + pending_looked labels f next)
  looked-goes_on next may more following = grind (arith, here, next-looked)

  -- one that doesn't match adds nothing, but it was looked at
  pub answer-fails : (next : Option Child) → all_admitted r.matchers labels ≡ false → IsNextChild labels (child.at + 1) f next → pending_answer labels number f (Some child) ≡ pending_answer labels number f next
  answer-fails next refused following =
      answer-goes_on next (ap (λ b. b && not r.continues) refused) following
      ∙ ap (λ own. own ++ pending_answer labels number f next) (alone-fails labels (number + child.entry.offset) (route_view r) r.children no_routes refused)

  pub looked-fails : (next : Option Child) → may_match labels (first_equality r.matchers) ≡ true → all_admitted r.matchers labels ≡ false → IsNextChild labels (child.at + 1) f next → pending_looked labels f (Some child) ≡ 1 + pending_looked labels f next
  looked-fails next may refused following = grind (arith, looked-goes_on)

-- ---- what a route adds after those below it were asked

module _ (labels : Labels) (at : ℕ) (r : Route) (old new : List Node) (found : new ≡ old ++ answer_of labels (at + 1) r.children) (admits : all_admitted r.matchers labels ≡ true) where
  pub own-kept : length new ≢ length old → new ≡ old ++ answer_of labels at (forest_of (r ∷ []))
  own-kept more = search (rules, length-append, alone-below)

-- the indexes, once the one of a route is written
pub level-written : (before : List Forest) (none below : Forest) (at : ℕ) → at ≡ length before
    → set ((before ++ none ∷ []) ++ levels_of below) at below ≡ before ++ (below ∷ levels_of below)
level-written before none below at on = grind (arith, append_assoc, set_at)
