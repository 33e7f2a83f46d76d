use Rattle.std.proofs.Common.{rules, ◌≡◌, ◌+◌, ◌++◌, ◌∷◌, [], take, true, None, Some, sym, ap, subst, ◌∙◌, arith, Vec, Global}
use Rattle.std.specs.List.{AllByRecursion, list_all}
use Rattle.std.specs.Option.{option_copied}
use Rattle.am_config.specs.RouteLists.{forest_of}
use Rattle.am_routes.specs.declared.name_index.NameIndex.{NameIndex}
use Rattle.am_routes.specs.Looking.{first_equality}
use Rattle.am_routes.specs.inside.ChildIndexes.{filings, has_name, is_found, IsIndexOf}
use Rattle.am_routes.proofs.ChildIndexes.{all_by-push, found-step, found-begins, named-push}
use Rattle.am_routes.proofs.child_index.index_names.Goals as goal
use Rattle.am_routes.proofs.child_index.index_names.Goals.{in-Some+then-not-is_of+in_ok-of+in_ok-push, in-Some+else-not-is_of, in_default}

pub loop-route-preserved : goal.loop-route-preserved
loop-route-preserved c =
    let rs = c.args.routes.now in
    let i = c.loop-route.route-index in
    let r = c.route-item.result in
    let all = filings (forest_of rs) in
    let old = c.loop-route.indexes.items in
    let are = c.loop-route.invariant.are in
    let found = c.loop-route.invariant.found in
    let filing : option_copied c.first_equality.result ≡ first_equality r.matchers = c.first_equality.ensures ∙ ap first_equality c.as_slice.ensures in
    elim c.match-first_equality.branch [
      | in-Some+then-not-is_of+in_ok-of+in_ok-push w ↦
          let m = w.in-Some.matcher.now in
          let some : first_equality r.matchers ≡ Some m = sym filing ∙ ap option_copied w.in-Some.is in
          let index = w.in_ok-of.field-0 in
          let named : index.name.now ≡ m.name = search rules in
          let items : c.match-first_equality.indexes.items ≡ old ++ index ∷ [] = ap (λ (v : Vec NameIndex Global). v.items) w.indexes-is ∙ w.in_ok-push.ensures.items in
          record {
            are = subst (AllByRecursion (IsIndexOf all)) (sym items) (all_by-push (IsIndexOf all) old index are w.in_ok-of.ensures.index);
            found = ap (λ l. list_all (is_found l) (filings (forest_of (take (i + 1) rs)))) items
                ∙ found-begins old index rs i r (omega arith) c.route-item.is found (ap (is_found (old ++ index ∷ [])) some ∙ named-push m.name old index named);
          }
      | in-Some+else-not-is_of w ↦
          let m = w.in-Some.matcher.now in
          let some : first_equality r.matchers ≡ Some m = sym filing ∙ ap option_copied w.in-Some.is in
          let has : has_name m.name old ≡ true = search rules in
          let items : c.match-first_equality.indexes.items ≡ old = ap (λ (v : Vec NameIndex Global). v.items) w.indexes-is in
          record {
            are = subst (AllByRecursion (IsIndexOf all)) (sym items) are;
            found = ap (λ l. list_all (is_found l) (filings (forest_of (take (i + 1) rs)))) items
                ∙ found-step old rs i r (omega arith) c.route-item.is found (ap (is_found old) some ∙ has);
          }
      | in_default w ↦
          let none : first_equality r.matchers ≡ None = search rules in
          let items : c.match-first_equality.indexes.items ≡ old = ap (λ (v : Vec NameIndex Global). v.items) w.indexes-is in
          record {
            are = subst (AllByRecursion (IsIndexOf all)) (sym items) are;
            found = ap (λ l. list_all (is_found l) (filings (forest_of (take (i + 1) rs)))) items
                ∙ found-step old rs i r (omega arith) c.route-item.is found (ap (is_found old) none);
          }
    ]
