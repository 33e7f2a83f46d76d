-- How routes are stored in models: as the list of their views in pre-order, with a gap after the last
-- route of each list. Only code of this crate cites it.
use Rattle.std.specs.Prelude.{◌≡◌, ℕ, List, [], ◌∷◌, ◌++◌, Bool, Option, Some, None, refl}
use Rattle.std.specs.Coded.{Coded, code_by, coded×, coded_list, coded_option, coded_ℕ, coded_bool}
use Rattle.std.proofs.Common.{sym, ◌∙◌, ap, append_assoc, append-nil}
use Rattle.am_matchers.specs.declared.operator.Operator.{Operator}
use Rattle.am_matchers.specs.Matchers.{MatcherView, coded_matcher}
use Rattle.am_config.specs.declared.group_by.GroupBy.{GroupBy}
use Rattle.am_config.specs.Routes.{RouteView, Forest, no_routes, route}

-- it is stored as the tuple of its fields
abbrev pub coded_route : Coded GroupBy → Coded Operator → Coded RouteView
coded_route group_by operator =
    code_by (List ℕ × (GroupBy × (List MatcherView × Bool)))
    (coded× (coded_list coded_ℕ)
    (coded× group_by (coded× (coded_list (coded_matcher operator)) coded_bool)))
    (λ r. (r.receiver, (r.group_by, (r.matchers, r.continues))))
    (λ p. record { receiver = p.0; group_by = p.1.0; matchers = p.1.1.0; continues = p.1.1.1 })
    (λ _. refl)

-- the routes in pre-order, with a gap after the last one of each list
abbrev pub forest_code : Forest → List (Option RouteView)
forest_code no_routes = None ∷ []
forest_code (route first children others) = Some first ∷ (forest_code children ++ forest_code others)

-- a route before the two lists that follow it: the routes below it, and the others
abbrev pub above_two : RouteView → List Forest → List Forest
above_two first [] = []
above_two first (children ∷ []) = []
above_two first (children ∷ others ∷ rest) = route first children others ∷ rest

-- the lists of routes that entries are written for, read from the last entry on
abbrev pub forests_from : List (Option RouteView) → List Forest
forests_from [] = []
forests_from (None ∷ entries) = no_routes ∷ forests_from entries
forests_from (Some first ∷ entries) = above_two first (forests_from entries)

-- the first of these lists
abbrev pub first_forest : List Forest → Forest
first_forest [] = no_routes
first_forest (first ∷ rest) = first

-- what is written of routes is read back as they are
pub forests_from-forest_code :
    (f : Forest) (rest : List (Option RouteView))
    → forests_from (forest_code f ++ rest) ≡ f ∷ forests_from rest
forests_from-forest_code no_routes rest = refl
forests_from-forest_code (route first children others) rest =
    ap (λ entries. above_two first (forests_from entries))
    (append_assoc (forest_code children) (forest_code others) rest)
    ∙ (ap (above_two first) (forests_from-forest_code children (forest_code others ++ rest))
    ∙ ap (λ forests. above_two first (children ∷ forests)) (forests_from-forest_code others rest))

-- and so the first list that is read back is the one that was written
pub first_forest-forest_code : (f : Forest) → first_forest (forests_from (forest_code f)) ≡ f
first_forest-forest_code f =
    ap first_forest (ap forests_from (sym (append-nil (forest_code f))) ∙ forests_from-forest_code f [])

-- routes are stored as these entries
abbrev pub coded_forest : Coded GroupBy → Coded Operator → Coded Forest
coded_forest group_by operator =
    code_by (List (Option RouteView))
    (coded_list (coded_option (coded_route group_by operator)))
    forest_code (λ entries. first_forest (forests_from entries)) first_forest-forest_code
