-- The one answer of routes, and that it is the only one.
use Rattle.std.proofs.Common.{◌≡◌, ℕ, ◌+◌, cond, List, [], ◌∷◌, ◌++◌, refl, sym, ap, subst, ◌∙◌, arith}
use Rattle.std.proofs.lemmas.List.{append-nil}
use Rattle.am_labels.specs.LabelSets.{Labels}
use Rattle.am_matchers.specs.Matchers.{all_admitted}
use Rattle.am_config.specs.Routes.{RouteView, Forest, no_routes, route, count_of}
use Rattle.am_routes.specs.declared.route_id.RouteId.{RouteId}
use Rattle.am_routes.specs.inside.Searches.{ids_of}
use Rattle.am_routes.specs.RouteAnswers.{Node, RouteAnswer, RoutesAnswer, IsAnswerOf, fails, from_below, itself, none_left, stops, gives_nothing, goes_on, own_answer, joined_with, answer_of}
use Rattle.am_routes.proofs.Cases.{by_bool}

module _ (labels : Labels) where
  own_meets : (number : ℕ) (first : RouteView) (below : Forest) (found : List Node) → RoutesAnswer labels (number + 1) below found → RouteAnswer labels number first below (own_answer labels number first found)
  own_meets number first below [] given =
      by_bool {P = RouteAnswer labels number first below (own_answer labels number first [])} (all_admitted first.matchers labels)
      (λ t. subst (λ b. RouteAnswer labels number first below (cond b (record { number = number; route = first } ∷ []) [])) (sym t) (itself t given))
      (λ f. subst (λ b. RouteAnswer labels number first below (cond b (record { number = number; route = first } ∷ []) [])) (sym f) (fails f))
  own_meets number first below (node ∷ nodes) given =
      by_bool {P = RouteAnswer labels number first below (own_answer labels number first (node ∷ nodes))} (all_admitted first.matchers labels)
      (λ t. subst (λ b. RouteAnswer labels number first below (cond b (node ∷ nodes) [])) (sym t) (from_below t given))
      (λ f. subst (λ b. RouteAnswer labels number first below (cond b (node ∷ nodes) [])) (sym f) (fails f))

  joined_meets : (number : ℕ) (first : RouteView) (below others : Forest) (own rest : List Node) → RouteAnswer labels number first below own → RoutesAnswer labels (number + 1 + count_of below) others rest
      → RoutesAnswer labels number (route first below others) (joined_with own first.continues rest)
  joined_meets number first below others [] rest given behind = gives_nothing given behind
  joined_meets number first below others (node ∷ nodes) rest given behind =
      by_bool {P = RoutesAnswer labels number (route first below others) (joined_with (node ∷ nodes) first.continues rest)} first.continues
      (λ t. subst (λ b. RoutesAnswer labels number (route first below others) (node ∷ nodes ++ cond b rest [])) (sym t) (goes_on given t behind))
      (λ f. subst (λ b. RoutesAnswer labels number (route first below others) (node ∷ nodes ++ cond b rest [])) (sym f) (subst (RoutesAnswer labels number (route first below others)) (sym (append-nil (node ∷ nodes))) (stops given f)))

  -- the one answer is an answer
  pub answer-meets : (number : ℕ) (routes : Forest) → RoutesAnswer labels number routes (answer_of labels number routes)
  answer-meets number no_routes = none_left
  answer-meets number (route first below others) =
      joined_meets number first below others (own_answer labels number first (answer_of labels (number + 1) below)) (answer_of labels (number + 1 + count_of below) others)
      (own_meets number first below (answer_of labels (number + 1) below) (answer-meets (number + 1) below))
      (answer-meets (number + 1 + count_of below) others)

module _ (labels : Labels) where
  mutual
    only_own : {number : ℕ} {first : RouteView} {below : Forest} {found : List Node} → RouteAnswer labels number first below found → found ≡ own_answer labels number first (answer_of labels (number + 1) below)
    only_own {number} {first} {below} (fails refused) = none (answer_of labels (number + 1) below)
      where
        none : (nodes : List Node) → [] ≡ own_answer labels number first nodes
        none [] = sym (ap (λ b. cond b (record { number = number; route = first } ∷ []) []) refused)
        none (node ∷ nodes) = sym (ap (λ b. cond b (node ∷ nodes) []) refused)
    only_own {number} {first} {below} (from_below {node = node} {nodes = nodes} admits given) =
        sym (ap (λ b. cond b (node ∷ nodes) []) admits) ∙ ap (own_answer labels number first) (answer-only given)
    only_own {number} {first} {below} (itself admits given) =
        sym (ap (λ b. cond b (record { number = number; route = first } ∷ []) []) admits) ∙ ap (own_answer labels number first) (answer-only given)

    -- an answer is the one answer
    pub answer-only : {number : ℕ} {routes : Forest} {found : List Node} → RoutesAnswer labels number routes found → found ≡ answer_of labels number routes
    answer-only none_left = refl
    answer-only {number} (stops {first = first} {below = below} {others = others} {node = node} {nodes = nodes} given last) =
        let rest = answer_of labels (number + 1 + count_of below) others in
        sym (append-nil (node ∷ nodes))
        ∙ (sym (ap (λ b. node ∷ nodes ++ cond b rest []) last)
        ∙ ap (λ own. joined_with own first.continues rest) (only_own given))
    answer-only {number} (gives_nothing {first = first} {below = below} {others = others} given behind) =
        answer-only behind ∙ ap (λ own. joined_with own first.continues (answer_of labels (number + 1 + count_of below) others)) (only_own given)
    answer-only {number} (goes_on {first = first} {below = below} {others = others} {own = own} given continues behind) =
        ap (λ rest. own ++ rest) (answer-only behind)
        ∙ (on own ∙ ap (λ own. joined_with own first.continues (answer_of labels (number + 1 + count_of below) others)) (only_own given))
      where
        on : (own : List Node) → own ++ answer_of labels (number + 1 + count_of below) others ≡ joined_with own first.continues (answer_of labels (number + 1 + count_of below) others)
        on [] = refl
        on (node ∷ nodes) = sym (ap (λ b. node ∷ nodes ++ cond b (answer_of labels (number + 1 + count_of below) others) []) continues)

-- the numbers of the one answer answer a label set
pub are-answer : (labels : Labels) (tree : Forest) (nodes : List Node) (ids : List RouteId) → nodes ≡ answer_of labels 0 tree → ids ≡ ids_of nodes → IsAnswerOf labels tree ids
are-answer labels tree nodes ids answer are = grind (arith, answer-meets)
