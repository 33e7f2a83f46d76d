use Rattle.std.proofs.Common.{List, map, sym, ap, subst, ◌∙◌}
use Rattle.std.proofs.lemmas.Result.{IfOk-weaker}
use Rattle.am_config.specs.RouteLists.{root_of}
use Rattle.am_routes.specs.declared.listed_route.ListedRoute.{ListedRoute}
use Rattle.am_answers.specs.Asking.{ShowsTree, shown, none_shown}
use Rattle.am_answers.specs.declared.answer.Answer.TheVariants.{Route}
use Rattle.am_answers.proofs.routes.show_tree.Goals as goal

pub returns-in-Ok : goal.returns-in-Ok
returns-in-Ok c =
    IfOk-weaker c.listed_answers.result _ _ (λ _ are. subst (ShowsTree (root_of c.args.tree.now)) (sym (are ∙ ap (λ (routes : List ListedRoute). map Route routes) c.in-Ok.ensures)) shown) c.listed_answers.ensures

pub returns-in-Err : goal.returns-in-Err
returns-in-Err c =
    IfOk-weaker c.one.result _ _ (λ _ are. subst (ShowsTree (root_of c.args.tree.now)) (sym are) none_shown) c.one.ensures
