-- The answers of reading a route, by how far it was read.
use Rattle.std.proofs.Common.{◌≡◌, ℕ, suc, Bool, List, Option, Some, Result, Ok, Err, refl, sym, subst}
use Rattle.std.specs.Prelude.{codes}
use Rattle.serde_json.specs.Data.{Data, Items}
use Rattle.serde_json.specs.View.{items_view}
use Rattle.serde_json.specs.declared.value.Value.{Value}
use Rattle.am_matchers.specs.Matchers.{MatcherView}
use Rattle.am_config.specs.Routes.{Forest}
use Rattle.am_config.specs.Paths.{member_path, item_path}
use Rattle.am_config.specs.Members.{ReadsMember}
use Rattle.am_config.specs.RouteHeads.{head_of, tail_of}
use Rattle.am_config.specs.Readings.{Is, refused, goes_on, each, AllowsResult}
use Rattle.am_config.specs.MatcherReadings.{matchers_of}
use Rattle.am_config.specs.RouteReadings.{elements, route_of, routes_of, with_children}
use Rattle.am_config.specs.RouteLists.{forest_of}
use Rattle.am_config.specs.declared.route.Route.{Route}
use Rattle.am_config.specs.declared.route_head.RouteHead.{RouteHead}
use Rattle.am_config.specs.declared.fault.ConfigFault.{ConfigFault}
use Rattle.am_config.specs.declared.fault.ConfigFault.TheVariants.{TooDeep}
use Rattle.am_config.proofs.Readings.{err_weaker, reads_err}

module _ (levels below : ℕ) (left : levels ≡ suc below) (above : Option RouteHead) (at : List ℕ) (d : Data) where
  with_level : (result : Result Route ConfigFault) → route_of (suc below) above at d result → route_of levels above at d result
  with_level result h = subst (λ n. route_of n above at d result) (sym left) h

  pub head_refused : (fault : ConfigFault) → ReadsMember (λ (h : RouteHead). h) (Err fault) (head_of above at d) → AllowsResult (route_of levels above at d) (Err fault)
  unfolding route_of
  head_refused fault h =
      err_weaker (Is (head_of above at d)) (route_of levels above at d) fault (λ r. with_level (Err fault) (refused r))
      (reads_err (λ (h : RouteHead). h) (head_of above at d) fault h)

  module _ (head : RouteHead) (is_head : head_of above at d ≡ Ok head) where
    module _ (path : List ℕ) (is_path : path ≡ member_path at (codes "matchers")) where
      pub matchers_refused : (fault : ConfigFault) → AllowsResult (matchers_of path head.matcher_texts) (Err fault) → AllowsResult (route_of levels above at d) (Err fault)
      unfolding route_of
      matchers_refused fault h =
          err_weaker (matchers_of path head.matcher_texts) (route_of levels above at d) fault
          (λ r. with_level (Err fault) (goes_on is_head (refused (subst (λ at. matchers_of at head.matcher_texts (Err fault)) is_path r)))) h

      module _ (matchers : List MatcherView) (are_matchers : matchers_of path head.matcher_texts (Ok matchers)) where
        were_matchers : matchers_of (member_path at (codes "matchers")) head.matcher_texts (Ok matchers)
        were_matchers = subst (λ at. matchers_of at head.matcher_texts (Ok matchers)) is_path are_matchers

        pub tail_refused : (fault : ConfigFault) → ReadsMember (λ (tail : Bool × Items). tail) (Err fault) (tail_of at d) → AllowsResult (route_of levels above at d) (Err fault)
        unfolding route_of
        tail_refused fault h =
            err_weaker (Is (tail_of at d)) (route_of levels above at d) fault
            (λ r. with_level (Err fault) (goes_on is_head (goes_on were_matchers (refused r)))) (reads_err (λ (tail : Bool × Items). tail) (tail_of at d) fault h)

        module _ (tail : Bool × Items) (is_tail : tail_of at d ≡ Ok tail) (below_path : List ℕ) (is_below_path : below_path ≡ member_path at (codes "routes")) where
          abbrev Below : Result Forest ConfigFault → Type 0
          Below result = routes_of (route_of below (Some head)) below_path tail.1 result

          at_its_path : (result : Result Forest ConfigFault) → Below result → routes_of (route_of below (Some head)) (member_path at (codes "routes")) tail.1 result
          at_its_path result h = subst (λ at. routes_of (route_of below (Some head)) at tail.1 result) is_below_path h

          pub children_refused : (fault : ConfigFault) → AllowsResult Below (Err fault) → AllowsResult (route_of levels above at d) (Err fault)
          unfolding route_of
          children_refused fault h =
              err_weaker Below (route_of levels above at d) fault
              (λ r. with_level (Err fault) (goes_on is_head (goes_on were_matchers (goes_on is_tail (refused (at_its_path (Err fault) r)))))) h

          pub route_read : (children : Forest) → Below (Ok children) → route_of levels above at d (Ok (with_children head matchers tail.0 children))
          unfolding route_of
          route_read children h = with_level _ (goes_on is_head (goes_on were_matchers (goes_on is_tail (goes_on (at_its_path (Ok children) h) refl))))

-- no level is left
pub none_left : (levels : ℕ) (above : Option RouteHead) (at : List ℕ) (d : Data) → levels ≡ 0 → route_of levels above at d (Err TooDeep)
unfolding route_of
none_left levels above at d e = subst (λ n. route_of n above at d (Err TooDeep)) (sym e) refl

-- an array's routes, each refused or all read
module _ (levels : ℕ) (above : RouteHead) (path : List ℕ) (values : List Value) where
  abbrev routes_at : ℕ → Data → Result Route ConfigFault → Type 0
  routes_at i d = route_of levels (Some above) (item_path path i) d

  pub routes_refused : (fault : ConfigFault) → AllowsResult (each routes_at 0 (elements (items_view values))) (Err fault)
      → AllowsResult (routes_of (route_of levels (Some above)) path (items_view values)) (Err fault)
  routes_refused fault h =
      err_weaker (each routes_at 0 (elements (items_view values))) (routes_of (route_of levels (Some above)) path (items_view values)) fault (λ r. refused r) h

  pub routes_read : (routes : List Route) → each routes_at 0 (elements (items_view values)) (Ok routes)
      → routes_of (route_of levels (Some above)) path (items_view values) (Ok (forest_of routes))
  routes_read routes h = goes_on h refl
