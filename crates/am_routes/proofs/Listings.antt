-- The routes of a tree listed one after another.
use Rattle.std.proofs.Common.{◌≡◌, inl, inr, ℕ, zero, suc, ◌+◌, ◌<◌, List, [], ◌∷◌, ◌++◌, length, drop, get_or, map, refl, ap, subst, ◌∙◌, arith, length-append}
use Rattle.std.proofs.lemmas.List.{append_assoc, map-append}
use Rattle.std.proofs.lemmas.List.Elements.{Contains-append_left, Contains-append_right, Contains-append_cases}
use Rattle.std.specs.List.{range_with_len, Contains}
use Rattle.am_labels.specs.LabelSets.{Labels}
use Rattle.am_routes.specs.RouteAnswers.{Node, RouteAnswer, RoutesAnswer, fails, from_below, itself, none_left, stops, gives_nothing, goes_on}
use Rattle.am_config.specs.declared.route.Route.{Route}
use Rattle.am_config.specs.Routes.{RouteView, Forest, no_routes, route, count_of}
use Rattle.am_config.specs.RouteLists.{route_view, forest_of}
use Rattle.am_routes.specs.Listings.{listed, listed_from}
use Rattle.am_routes.specs.declared.listed_route.ListedRoute.{ListedRoute}
use Rattle.am_routes.proofs.Searching.{forest-drop}

-- as many are listed as there are
pub length-listed : (depth number : ℕ) (f : Forest) → length (listed_from depth number f) ≡ count_of f
length-listed depth number no_routes = refl
length-listed depth number (route first below others) =
    omega (arith, length-append (listed_from (depth + 1) (number + 1) below) (listed_from depth (number + 1 + count_of below) others), length-listed (depth + 1) (number + 1) below, length-listed depth (number + 1 + count_of below) others)

-- a route is listed with those below it, and the others are left
pub listed-one : (rs : List Route) (i : ℕ) (r : Route) (depth : ℕ) (old total new : List ListedRoute) → i < length rs → r ≡ get_or rs i r
    → old ++ listed_from depth (length old) (forest_of (drop i rs)) ≡ total
    → new ≡ (old ++ listed depth (record { number = length old; route = route_view r }) ∷ []) ++ listed_from (depth + 1) (length old + 1) r.children
    → new ++ listed_from depth (length new) (forest_of (drop (i + 1) rs)) ≡ total
listed-one rs i r depth old total new early is so_far added =
    grind (arith, length-append, length-listed, append_assoc, forest-drop)

-- ---- the numbers of the list

range-append : (a n m : ℕ) → range_with_len a n ++ range_with_len (a + n) m ≡ range_with_len a (n + m)
range-append a zero m = grind arith
range-append a (suc n) m =
    let start : a + suc n ≡ a + 1 + n = omega arith in
    let count : suc (n + m) ≡ suc n + m = omega arith in
    ap (λ from. a ∷ (range_with_len (a + 1) n ++ range_with_len from m)) start
    ∙ (ap (λ rest. a ∷ rest) (range-append (a + 1) n m) ∙ ap (range_with_len a) count)

pub numbers-listed : (depth number : ℕ) (f : Forest) → map (λ (one : ListedRoute). one.id.0) (listed_from depth number f) ≡ range_with_len number (count_of f)
numbers-listed depth number no_routes = refl
numbers-listed depth number (route first below others) =
    let rest = numbers-listed (depth + 1) (number + 1) below in
    let other = numbers-listed depth (number + 1 + count_of below) others in
    grind (arith, map-append, range-append)

-- ---- what is matched is listed

here-listed : {A : Type 0} (x : A) (xs : List A) → Contains (x ∷ xs) x
here-listed x xs = (0, omega arith, refl)

none-in : {A : Type 0} {P : Type 0} (x : A) → Contains [] x → P
none-in x has = absurd (let small : has.0 < 0 = has.1 in omega arith)

only-one : {A : Type 0} (x y : A) → Contains (x ∷ []) y → x ≡ y
only-one x y (zero, h, e) = e
only-one x y (suc k, h, e) = absurd (let small : suc k < 1 = h in omega arith)

module _ (labels : Labels) where
  mutual
    own-listed : {number : ℕ} {first : RouteView} {below : Forest} {nodes : List Node} → RouteAnswer labels number first below nodes → (depth : ℕ) (node : Node) → Contains nodes node
        → (deep : ℕ) × Contains (listed depth (record { number = number; route = first }) ∷ listed_from (depth + 1) (number + 1) below) (listed deep node)
    own-listed (fails refused) depth node has = none-in node has
    own-listed {number} {first} {below} (from_below admits given) depth node has =
        let under = listed-of given (depth + 1) node has in
        (under.0, Contains-append_right (listed depth (record { number = number; route = first }) ∷ []) (listed_from (depth + 1) (number + 1) below) (listed under.0 node) under.1)
    own-listed {number} {first} {below} (itself admits given) depth node has =
        let one : Node = record { number = number; route = first } in
        let rest = listed_from (depth + 1) (number + 1) below in
        (depth, subst (λ (other : Node). Contains (listed depth one ∷ rest) (listed depth other)) (only-one one node has) (here-listed (listed depth one) rest))

    pub listed-of : {number : ℕ} {routes : Forest} {nodes : List Node} → RoutesAnswer labels number routes nodes → (depth : ℕ) (node : Node) → Contains nodes node
        → (deep : ℕ) × Contains (listed_from depth number routes) (listed deep node)
    listed-of none_left depth node has = none-in node has
    listed-of {number} (stops {first = first} {below = below} {others = others} given last) depth node has =
        let own = own-listed given depth node has in
        (own.0, Contains-append_left (listed depth (record { number = number; route = first }) ∷ listed_from (depth + 1) (number + 1) below) (listed_from depth (number + 1 + count_of below) others) (listed own.0 node) own.1)
    listed-of {number} (gives_nothing {first = first} {below = below} {others = others} given behind) depth node has =
        let rest = listed-of behind depth node has in
        (rest.0, Contains-append_right (listed depth (record { number = number; route = first }) ∷ listed_from (depth + 1) (number + 1) below) (listed_from depth (number + 1 + count_of below) others) (listed rest.0 node) rest.1)
    listed-of {number} (goes_on {first = first} {below = below} {others = others} {own = own} {rest = rest} given continues behind) depth node has =
        elim (Contains-append_cases own rest node has) [
          | inl in_own ↦
              let mine = own-listed given depth node in_own in
              (mine.0, Contains-append_left (listed depth (record { number = number; route = first }) ∷ listed_from (depth + 1) (number + 1) below) (listed_from depth (number + 1 + count_of below) others) (listed mine.0 node) mine.1)
          | inr in_rest ↦
              let after = listed-of behind depth node in_rest in
              (after.0, Contains-append_right (listed depth (record { number = number; route = first }) ∷ listed_from (depth + 1) (number + 1) below) (listed_from depth (number + 1 + count_of below) others) (listed after.0 node) after.1)
        ]
