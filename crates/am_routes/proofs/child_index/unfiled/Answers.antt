use Rattle.std.proofs.Common.{rules, ◌≡◌, ◌++◌, ◌∷◌, [], Option, None, Some, cond, is_none, refl, sym, ap, ◌∙◌, arith, Bor}
use Rattle.std.proofs.lemmas.List.{append-nil}
use Rattle.std.specs.Option.{option_copied}
use Rattle.am_config.specs.declared.route.Route.{Route}
use Rattle.am_matchers.specs.Matchers.{MatcherView}
use Rattle.am_routes.specs.Looking.{first_equality}
use Rattle.am_routes.specs.inside.ChildIndexes.{is_unfiled}
use Rattle.am_routes.proofs.ChildIndexes.{places-step}
use Rattle.am_routes.proofs.child_index.unfiled.Goals as goal
use Rattle.am_routes.proofs.child_index.unfiled.Goals.{then-is_none+in_ok-push, else-is_none}

unfiled_is : (o : Option (Bor MatcherView)) → is_unfiled (option_copied o) ≡ is_none o
unfiled_is None = refl
unfiled_is (Some m) = refl

pub loop-at-preserved : goal.loop-at-preserved
loop-at-preserved c =
    let rs = c.args.routes.now in
    let i = c.loop-at.at in
    let r = c.index-routes-at.result in
    let before = c.loop-at.places.items in
    let filing : option_copied c.first_equality.result ≡ first_equality r.matchers =
    c.first_equality.ensures ∙ ap first_equality (c.as_slice.ensures ∙ ap (λ (r : Route). r.matchers) (sym c.index-routes-at.is)) in
    let step = places-step is_unfiled rs i r (omega arith) c.index-routes-at.is in
    let test = sym (ap is_unfiled filing) ∙ unfiled_is c.first_equality.result in
    let more = λ (e : c.if-is_none.places.items ≡ before ++ cond (is_none c.first_equality.result) (i ∷ []) []).
    e ∙ (ap (λ b. before ++ cond b (i ∷ []) []) (sym test)
    ∙ (ap (λ l. l ++ cond (is_unfiled (first_equality r.matchers)) (i ∷ []) []) c.loop-at.invariant ∙ sym step)) in
    search (rules, then-is_none+in_ok-push, else-is_none, append-nil)
