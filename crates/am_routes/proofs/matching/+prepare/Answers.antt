use Rattle.std.proofs.Common.{◌≡◌, ◌++◌, ◌∷◌, [], ◌+◌, ◌-◌, length, take, sym, ap, ◌∙◌, arith, length-append}
use Rattle.std.proofs.lemmas.Grind.{common_steps}
use Rattle.std.proofs.lemmas.List.{append_assoc, append-nil, take_all}
use Rattle.am_config.specs.Routes.{Forest, RouteView, count_of}
use Rattle.am_config.specs.RouteLists.{forest_of}
use Rattle.am_routes.specs.inside.ChildIndexes.{offsets_from, other_matchers}
use Rattle.am_routes.specs.inside.Searches.{levels_of, others_of}
use Rattle.am_routes.proofs.ChildIndexes.{offsets-more}
use Rattle.am_routes.proofs.Searching.{count-below, length-in_pre_order, in_pre_order-more, level-written}
use Rattle.am_routes.proofs.matching.+prepare.Goals as goal

pub prepare-requires : goal.prepare-requires
prepare-requires t c = grind (arith, common_steps, count-below)

pub loop-child-preserved : goal.loop-child-preserved
loop-child-preserved t c =
    let rs = c.as_slice-children.result.now in
    let r = c.child-item.result in
    let i = c.loop-child.child-index in
    let before = c.args.searches.now.levels.items in
    let levels = c.push.new.self.items in
    let others = c.push-2.new.self.items in
    let level = λ (first : RouteView) (below : Forest). below in
    let other = λ (first : RouteView) (below : Forest). other_matchers first.matchers in
    let so_far = levels_of (forest_of (take i rs)) in
    let begun : length levels ≡ length before + 1 = ap length c.in_ok-push.ensures.items ∙ length-append before _ in
    let long : length c.loop-child.searches.levels.items ≡ length levels + count_of (forest_of (take i rs)) =
    ap length c.loop-child.invariant.levels ∙ (length-append levels so_far ∙ ap (λ n. length levels + n) (length-in_pre_order level (forest_of (take i rs)))) in
    let number : c.len-number.result ≡ length before = c.len-number.ensures ∙ c.args.searches.now.levels.ok.0 in
    let many : c.len.result ≡ length c.loop-child.searches.levels.items = c.len.ensures ∙ c.loop-child.searches.levels.ok.0 in
    let offset : c.len.result - c.len-number.result ≡ 1 + count_of (forest_of (take i rs)) = omega arith in
    record {
      levels = c.in_ok-prepare.ensures.levels
          ∙ (ap (λ l. l ++ levels_of (forest_of (r ∷ []))) c.loop-child.invariant.levels
          ∙ (append_assoc levels so_far (levels_of (forest_of (r ∷ [])))
          ∙ ap (λ l. levels ++ l) (in_pre_order-more level rs i r (omega arith) c.child-item.is)));
      others = c.in_ok-prepare.ensures.others
          ∙ (ap (λ l. l ++ others_of (forest_of (r ∷ []))) c.loop-child.invariant.others
          ∙ (append_assoc others (others_of (forest_of (take i rs))) (others_of (forest_of (r ∷ [])))
          ∙ ap (λ l. others ++ l) (in_pre_order-more other rs i r (omega arith) c.child-item.is)));
      root = c.in_ok-prepare.ensures.root ∙ c.loop-child.invariant.root;
      offsets = c.in_ok-push-3.ensures.items
          ∙ (ap (λ l. l ++ (c.len.result - c.len-number.result) ∷ []) c.loop-child.invariant.offsets
          ∙ (ap (λ n. offsets_from 1 (forest_of (take i rs)) ++ n ∷ []) offset
          ∙ sym (offsets-more 1 rs i r (omega arith) c.child-item.is)));
    }

pub returns-clause-levels : goal.returns-clause-levels
returns-clause-levels t c = grind (arith, common_steps, take_all, level-written, append-nil)
