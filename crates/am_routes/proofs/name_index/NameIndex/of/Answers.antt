use Rattle.std.proofs.Common.{rules, ◌≡◌, ℕ, List, ◌++◌, ◌∷◌, [], Bool, false, cond, sym, ap, ◌∙◌, arith}
use Rattle.std.proofs.lemmas.List.{append-nil}
use Rattle.std.specs.Option.{option_copied}
use Rattle.am_config.specs.declared.route.Route.{Route}
use Rattle.am_routes.specs.Looking.{first_equality}
use Rattle.am_routes.specs.inside.ChildIndexes.{is_filed, indexes_kept}
use Rattle.am_routes.proofs.ChildIndexes.{places-step}
use Rattle.am_routes.proofs.name_index.NameIndex.of.Goals as goal
use Rattle.am_routes.proofs.name_index.NameIndex.of.Goals.{in-Some+then-eq+in_ok-add, in-Some+else-eq, in_default}

nothing_more : (l : List ℕ) (i : ℕ) (b : Bool) → b ≡ false → l ≡ l ++ cond b (i ∷ []) []
nothing_more l i b f = sym (append-nil l) ∙ ap (λ b. l ++ cond b (i ∷ []) []) (sym f)

pub loop-at-preserved : goal.loop-at-preserved
loop-at-preserved c =
    let rs = c.args.routes.now in
    let i = c.loop-at.at in
    let r = c.index-routes-at.result in
    let name = c.args.name.now in
    let old = c.loop-at.index in
    let filing : option_copied c.first_equality.result ≡ first_equality r.matchers =
    c.first_equality.ensures ∙ ap first_equality (c.as_slice.ensures ∙ ap (λ (r : Route). r.matchers) (sym c.index-routes-at.is)) in
    let more = λ (value : List ℕ) (e : indexes_kept value c.match-first_equality.index ≡ indexes_kept value old ++ cond (is_filed name value (first_equality r.matchers)) (i ∷ []) []).
    e ∙ (ap (λ l. l ++ cond (is_filed name value (first_equality r.matchers)) (i ∷ []) []) (c.loop-at.invariant.kept value)
    ∙ sym (places-step (is_filed name value) rs i r (omega arith) c.index-routes-at.is)) in
    search (rules, in-Some+then-eq+in_ok-add, in-Some+else-eq, nothing_more, in_default)
