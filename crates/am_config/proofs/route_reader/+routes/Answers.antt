use Rattle.std.proofs.Common.{◌≡◌, ◌∙◌, ◌-◌, ◌≤◌, suc, Some, Err, ap, sym, subst, length, arith}
use Rattle.std.specs.Prelude.{option_copied}
use Rattle.std.proofs.lemmas.Result.{err_from_is_err_and}
use Rattle.serde_json.specs.View.{view, items_view}
use Rattle.am_config.specs.Readings.{AllowsResult}
use Rattle.am_config.specs.RouteReadings.{route_of, routes_of}
use Rattle.am_config.proofs.RouteReadings.{none_left, head_refused, matchers_refused, tail_refused, children_refused, route_read, routes_refused, routes_read}
use Rattle.am_config.proofs.ArrayReadings.{item_read, item_refused, items_read}
use Rattle.am_config.proofs.route_reader.+routes.Goals as goal

pub read_route-returns-then-levels-eq0 : goal.read_route-returns-then-levels-eq0
read_route-returns-then-levels-eq0 t c = none_left c.args.levels (option_copied c.args.above) c.args.at.now (view c.args.value.now) c.if-levels-eq0.true

pub read_route-returns-in_err-head : goal.read_route-returns-in_err-head
read_route-returns-in_err-head t c =
    let p = err_from_is_err_and c.from_residual.result c.from_residual.ensures.1 in
    let left : c.args.levels ≡ suc (c.args.levels - 1) = omega arith in
    subst (λ r. AllowsResult (route_of c.args.levels (option_copied c.args.above) c.args.at.now (view c.args.value.now)) r) (sym (p.1 ∙ ap Err p.2))
    (head_refused c.args.levels (c.args.levels - 1) left (option_copied c.args.above) c.args.at.now (view c.args.value.now) c.in_err-head.field-0.0 c.in_err-head.ensures)

pub read_route-returns-in_err-matchers : goal.read_route-returns-in_err-matchers
read_route-returns-in_err-matchers t c =
    let p = err_from_is_err_and c.from_residual-in_err-matchers.result c.from_residual-in_err-matchers.ensures.1 in
    let left : c.args.levels ≡ suc (c.args.levels - 1) = omega arith in
    subst (λ r. AllowsResult (route_of c.args.levels (option_copied c.args.above) c.args.at.now (view c.args.value.now)) r) (sym (p.1 ∙ ap Err p.2))
    (matchers_refused c.args.levels (c.args.levels - 1) left (option_copied c.args.above) c.args.at.now (view c.args.value.now)
    c.in_ok-head.head c.in_ok-head.ensures c.in_ok-member.field-0 c.in_ok-member.ensures c.in_err-matchers.field-0.0 c.in_err-matchers.ensures)

pub read_route-returns-in_err-continues : goal.read_route-returns-in_err-continues
read_route-returns-in_err-continues t c =
    let p = err_from_is_err_and c.from_residual-in_err-continues.result c.from_residual-in_err-continues.ensures.1 in
    let left : c.args.levels ≡ suc (c.args.levels - 1) = omega arith in
    subst (λ r. AllowsResult (route_of c.args.levels (option_copied c.args.above) c.args.at.now (view c.args.value.now)) r) (sym (p.1 ∙ ap Err p.2))
    (tail_refused c.args.levels (c.args.levels - 1) left (option_copied c.args.above) c.args.at.now (view c.args.value.now)
    c.in_ok-head.head c.in_ok-head.ensures c.in_ok-member.field-0 c.in_ok-member.ensures c.in_ok-matchers.matchers c.in_ok-matchers.ensures c.in_err-continues.field-0.0 c.in_err-continues.ensures)

pub read_route-returns-in_err-children : goal.read_route-returns-in_err-children
read_route-returns-in_err-children t c =
    let p = err_from_is_err_and c.from_residual-in_err-children.result c.from_residual-in_err-children.ensures.1 in
    let left : c.args.levels ≡ suc (c.args.levels - 1) = omega arith in
    subst (λ r. AllowsResult (route_of c.args.levels (option_copied c.args.above) c.args.at.now (view c.args.value.now)) r) (sym (p.1 ∙ ap Err p.2))
    (children_refused c.args.levels (c.args.levels - 1) left (option_copied c.args.above) c.args.at.now (view c.args.value.now)
    c.in_ok-head.head c.in_ok-head.ensures c.in_ok-member.field-0 c.in_ok-member.ensures c.in_ok-matchers.matchers c.in_ok-matchers.ensures
    (c.in_ok-continues.continues, items_view c.in_ok-continues.below.now) c.in_ok-continues.ensures c.in_ok-member-2.field-0 c.in_ok-member-2.ensures
    c.in_err-children.field-0.0 c.in_err-children.ensures)

pub read_route-returns : goal.read_route-returns
read_route-returns t c =
    let left : c.args.levels ≡ suc (c.args.levels - 1) = omega arith in
    route_read c.args.levels (c.args.levels - 1) left (option_copied c.args.above) c.args.at.now (view c.args.value.now)
    c.in_ok-head.head c.in_ok-head.ensures c.in_ok-member.field-0 c.in_ok-member.ensures c.in_ok-matchers.matchers c.in_ok-matchers.ensures
    (c.in_ok-continues.continues, items_view c.in_ok-continues.below.now) c.in_ok-continues.ensures c.in_ok-member-2.field-0 c.in_ok-member-2.ensures
    c.in_ok-children.children c.in_ok-children.ensures

pub read_routes-returns-in_err-read_route : goal.read_routes-returns-in_err-read_route
read_routes-returns-in_err-read_route t c =
    let p = err_from_is_err_and c.from_residual-in_err-read_route.result c.from_residual-in_err-read_route.ensures.1 in
    subst (λ r. AllowsResult (routes_of (route_of c.args.levels (Some c.args.above.now)) c.args.path.now (items_view c.args.items.now)) r) (sym (p.1 ∙ ap Err p.2))
    (routes_refused c.args.levels c.args.above.now c.args.path.now c.args.items.now c.in_err-read_route.field-0.0
    (item_refused (route_of c.args.levels (Some c.args.above.now)) c.args.path.now c.args.items.now c.loop-i.routes.items c.loop-i.i c.index-items-i.result _
    c.in_ok-at.at c.loop-i-test.true c.index-items-i.is c.in_ok-at.ensures c.in_err-read_route.field-0.0 c.in_err-read_route.ensures c.loop-i.invariant))

pub read_routes-loop-i-preserved : goal.read_routes-loop-i-preserved
read_routes-loop-i-preserved t c =
    item_read (route_of c.args.levels (Some c.args.above.now)) c.args.path.now c.args.items.now c.loop-i.routes.items c.loop-i.i c.index-items-i.result _
    c.in_ok-at.at c.loop-i-test.true c.index-items-i.is c.in_ok-at.ensures _ c.in_ok-read_route.field-0 c.in_ok-read_route.ensures c.in_ok-push.ensures.items c.loop-i.invariant

pub read_routes-returns : goal.read_routes-returns
read_routes-returns t c =
    let past : length c.args.items.now ≤ c.loop-i.i = omega arith in
    routes_read c.args.levels c.args.above.now c.args.path.now c.args.items.now c.loop-i.routes.items
    (items_read (route_of c.args.levels (Some c.args.above.now)) c.args.path.now c.args.items.now c.loop-i.routes.items c.loop-i.i past c.loop-i.invariant)
