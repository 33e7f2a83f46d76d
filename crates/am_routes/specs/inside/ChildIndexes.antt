-- How the routes below a route are found that may match a label set: by their first equality matchers. Only
-- code of this crate cites it.
use Rattle.std.specs.Prelude.{◌≡◌, ◌≤◌, ◌<◌, ℕ, zero, suc, ◌+◌, Bool, true, false, ◌&&◌, ◌||◌}
use Rattle.std.specs.Prelude.{if◌then◌else◌, List, [], ◌∷◌, map, take, drop, Option, None, Some, IfSome}
use Rattle.std.specs.Prelude.{slice_get, bytes_eq, nat_eq, nat_lt, refl}
use Rattle.std.specs.Coded.{Coded, code_by, coded×, coded_ℕ}
use Rattle.std.specs.HashMap.{get_by}
use Rattle.std.specs.List.{AllByRecursion, list_any, list_all}
use Rattle.std.specs.Option.{option_map, option_map_or}
use Rattle.am_labels.specs.LabelSets.{Labels, value_of, coded_labels}
use Rattle.am_matchers.specs.Matchers.{MatcherView}
use Rattle.am_config.specs.Routes.{RouteView, Forest, no_routes, route, count_of}
use Rattle.am_config.specs.RouteLists.{route_view}
use Rattle.am_routes.specs.declared.candidates.Child.{Child}
use Rattle.am_routes.specs.declared.child_entry.ChildEntry.{ChildEntry}
use Rattle.am_routes.specs.declared.name_index.NameIndex.{NameIndex}
use Rattle.am_routes.specs.Looking.{is_equal, first_equality, may_match}

-- a route of some in order, with those below it, and how far after the route above it comes in pre-order
pub record ChildView : Type 0 where
  pub offset : ℕ
  pub first : RouteView
  pub below : Forest

-- routes in order, the first of which comes so far after the one above
abbrev pub children_from : ℕ → Forest → List ChildView
children_from offset no_routes = []
children_from offset (route first below others) =
    record { offset = offset; first = first; below = below }
    ∷ children_from (offset + 1 + count_of below) others

-- how far each comes after the one above
abbrev pub offsets_from : ℕ → Forest → List ℕ
offsets_from offset routes = map (λ child. child.offset) (children_from offset routes)

-- matchers without the first equality matcher
abbrev pub other_matchers : List MatcherView → List MatcherView
other_matchers [] = []
other_matchers (matcher ∷ matchers) =
    if is_equal matcher.operator then matchers else matcher ∷ other_matchers matchers

-- no elements
abbrev pub is_nil : {X : Type 0} → List X → Bool
is_nil [] = true
is_nil (x ∷ xs) = false

-- no routes
abbrev pub has_no_routes : Forest → Bool
has_no_routes no_routes = true
has_no_routes (route first below others) = false

-- what is kept of a route below another
abbrev pub child_entry_of : ChildView → ChildEntry
child_entry_of child = record {
  offset = child.offset;
  is_settled = is_nil (other_matchers child.first.matchers);
  is_leaf = has_no_routes child.below;
  continues = child.first.continues;
}

-- what is kept of each
abbrev pub entries_from : ℕ → Forest → List ChildEntry
entries_from offset routes = map child_entry_of (children_from offset routes)

-- the first equality matcher of each
abbrev pub filings : Forest → List (Option MatcherView)
filings no_routes = []
filings (route first below others) = first_equality first.matchers ∷ filings others

-- the indexes of those that pass a test, the first one having the index
abbrev pub places_from : {X : Type 0} → (X → Bool) → ℕ → List X → List ℕ
places_from test at [] = []
places_from test at (x ∷ xs) =
    if test x then at ∷ places_from test (at + 1) xs else places_from test (at + 1) xs

-- whether a route has no equality matcher
abbrev pub is_unfiled : Option MatcherView → Bool
is_unfiled None = true
is_unfiled (Some matcher) = false

-- whether the first is one of that name and that value
abbrev pub is_filed : List ℕ → List ℕ → Option MatcherView → Bool
is_filed name value None = false
is_filed name value (Some matcher) = bytes_eq matcher.name name && bytes_eq value matcher.value

-- the indexes of routes that are kept for a value
abbrev pub indexes_kept : List ℕ → NameIndex → List ℕ
indexes_kept value index =
    option_map_or (λ places. places.items) (get_by (λ k. bytes_eq value k.now) index.values) []

-- for each value those are kept that are filed under the name and it
abbrev pub IsIndexOf : List (Option MatcherView) → NameIndex → Type 0
IsIndexOf all index =
    (value : List ℕ) → indexes_kept value index ≡ places_from (is_filed index.name.now value) 0 all

-- whether one of some indexes is of a name
abbrev pub has_name : List ℕ → List NameIndex → Bool
has_name name indexes = list_any (λ index. bytes_eq name index.name.now) indexes

-- whether one of them is of the name that a route is filed under, if there is any
abbrev pub is_found : List NameIndex → Option MatcherView → Bool
is_found indexes None = true
is_found indexes (Some matcher) = has_name matcher.name indexes

-- each is an index of the routes, and each name is found
abbrev pub AreIndexesOf : List (Option MatcherView) → List NameIndex → Type 0
AreIndexesOf all indexes =
    AllByRecursion (IsIndexOf all) indexes × (list_all (is_found indexes) all ≡ true)

-- whether one of some indexes keeps a route for the value that a label set has
abbrev pub is_kept : Labels → List NameIndex → Option MatcherView → Bool
is_kept labels indexes filing =
    list_any (λ index. is_filed index.name.now (value_of labels index.name.now) filing) indexes

-- whether a route is found for a label set: it has no equality matcher, or one of some indexes keeps it
abbrev pub is_met : Labels → List NameIndex → Option MatcherView → Bool
is_met labels indexes filing = is_unfiled filing || is_kept labels indexes filing

-- the entries, the indexes and those without an equality matcher are those of the routes
abbrev pub AreKeptOf : Forest → List ChildEntry → List ℕ → List NameIndex → Type 0
AreKeptOf routes entries unfiled indexes =
    (entries ≡ entries_from 1 routes)
    × (unfiled ≡ places_from is_unfiled 0 (filings routes))
    × AreIndexesOf (filings routes) indexes

-- the index of the first element that passes a test, of those from an index on; none, if none does
abbrev pub IsFirstFrom : {X : Type 0} → (X → Bool) → ℕ → List X → Option ℕ → Type 0
IsFirstFrom {X} test from xs None =
    (k : ℕ) → (x : X) → from ≤ k → slice_get xs k ≡ Some x → test x ≡ false
IsFirstFrom {X} test from xs (Some at) =
    (from ≤ at) × ((x : X) × (slice_get xs at ≡ Some x) × (test x ≡ true))
    × ((k : ℕ) → (x : X) → from ≤ k → k < at → slice_get xs k ≡ Some x → test x ≡ false)

-- the lower of two indexes
abbrev pub earlier : Option ℕ → Option ℕ → Option ℕ
earlier None other = other
earlier (Some at) None = Some at
earlier (Some at) (Some other) = if nat_lt other at then Some other else Some at

-- routes without those before an index
abbrev pub drop_routes : ℕ → Forest → Forest
drop_routes at no_routes = no_routes
drop_routes zero (route first below others) = route first below others
drop_routes (suc at) (route first below others) = drop_routes at others

-- how far after the route above it the one at an index comes, if the first comes so far after it
abbrev pub offset_at : ℕ → ℕ → Forest → ℕ
offset_at at offset no_routes = offset
offset_at zero offset (route first below others) = offset
offset_at (suc at) offset (route first below others) =
    offset_at at (offset + 1 + count_of below) others

-- a route below another, by what is kept of it and by itself
abbrev pub child_view_of : Child → ChildView
child_view_of child = record {
  offset = child.entry.offset;
  first = route_view child.route.now;
  below = child.route.now.children;
}

-- a route below another is the one at its index, and what is kept of it is its own
abbrev pub IsChildOf : Forest → Child → Type 0
IsChildOf routes child =
    (slice_get (children_from 1 routes) child.at ≡ Some (child_view_of child))
    × (child.entry ≡ child_entry_of (child_view_of child))

-- the first route from an index on that may match a label set
abbrev pub IsNextChild : Labels → ℕ → Forest → Option Child → Type 0
IsNextChild labels from routes next =
    IsFirstFrom (may_match labels) from (filings routes) (option_map (λ child. child.at) next)
    × IfSome next (IsChildOf routes)

-- indexes without one, if that is their first
abbrev pub without : ℕ → List ℕ → List ℕ
without at [] = []
without at (place ∷ places) = if nat_eq place at then places else place ∷ places

-- the indexes of those that pass a test, from an index on
abbrev pub places_left : {X : Type 0} → (X → Bool) → ℕ → List X → List ℕ
places_left test from xs = places_from test from (drop from xs)

-- candidates, as contracts see them: those of some routes that come from an index on and may match
pub record CandidatesView : Type 0 where
  pub labels : Labels
  pub from : ℕ
  pub routes : Forest

-- they are stored as the tuple of their fields
abbrev pub coded_candidates : Coded Forest → Coded CandidatesView
coded_candidates forest =
    code_by (Labels × (ℕ × Forest)) (coded× coded_labels (coded× coded_ℕ forest))
    (λ c. (c.labels, (c.from, c.routes)))
    (λ p. record { labels = p.0; from = p.1.0; routes = p.1.1 }) (λ _. refl)

-- the entries and the indexes are those of the routes, and of the routes from an index on these have no
-- equality matcher, and these the first of the indexes keeps
abbrev pub AreLeftOf : Labels → ℕ → Forest → List ChildEntry → List ℕ → List ℕ → List NameIndex → Type 0
AreLeftOf labels from routes entries unfiled filed indexes =
    (entries ≡ entries_from 1 routes)
    × (unfiled ≡ places_left is_unfiled from (filings routes))
    × (filed ≡ places_left (is_kept labels (take 1 indexes)) from (filings routes))
    × AreIndexesOf (filings routes) indexes
