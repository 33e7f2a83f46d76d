use Rattle.std.proofs.Common.{rules, ◌≡◌, ◌++◌, ◌+◌, length, [], ◌∷◌, ap, ◌∙◌, arith, length-append}
use Rattle.std.proofs.lemmas.Grind.{common_steps}
use Rattle.am_config.specs.RouteLists.{route_view}
use Rattle.am_routes.specs.Listings.{listed, listed_from}
use Rattle.am_routes.specs.declared.listed_route.ListedRoute.{ListedRoute}
use Rattle.am_routes.proofs.Searching.{count-below}
use Rattle.am_routes.proofs.Listings.{listed-one}
use Rattle.am_routes.proofs.listed_route.+list_each.Goals as goal

pub list_each-requires : goal.list_each-requires
list_each-requires t c = grind (arith, common_steps, count-below)

pub loop-route-preserved : goal.loop-route-preserved
loop-route-preserved t c =
    let r = c.route-item.result in
    let rs = c.args.routes.now in
    let i = c.loop-route.route-index in
    let depth = c.args.depth in
    let old = c.loop-route.listed.items in
    let one : ListedRoute = listed depth (record { number = length old; route = route_view r }) in
    let is_one : c.in_ok-list_one.field-0 ≡ one = search rules in
    let pushed : c.push.new.self.items ≡ old ++ one ∷ [] = c.in_ok-push.ensures.items ∙ ap (λ (x : ListedRoute). old ++ x ∷ []) is_one in
    let long : length c.push.new.self.items ≡ length old + 1 = ap length pushed ∙ length-append old (one ∷ []) in
    let added : c.list_each.new.listed.items ≡ (old ++ one ∷ []) ++ listed_from (depth + 1) (length old + 1) r.children =
    c.in_ok-list_each.ensures
    ∙ (ap (λ f. c.push.new.self.items ++ listed_from (depth + 1) (length c.push.new.self.items) f) c.as_slice.ensures
    ∙ (ap (λ n. c.push.new.self.items ++ listed_from (depth + 1) n r.children) long
    ∙ ap (λ l. l ++ listed_from (depth + 1) (length old + 1) r.children) pushed)) in
    record {
      deep = let grown : length c.list_each.new.listed.items ≡ length old + 1 + length (listed_from (depth + 1) (length old + 1) r.children) = ap length added ∙ (length-append (old ++ one ∷ []) (listed_from (depth + 1) (length old + 1) r.children) ∙ ap (λ n. n + length (listed_from (depth + 1) (length old + 1) r.children)) (length-append old (one ∷ []))) in
          let was = c.loop-route.invariant.deep in omega arith;
      so_far = listed-one rs i r depth old _ c.list_each.new.listed.items (omega arith) c.route-item.is c.loop-route.invariant.so_far added;
    }
