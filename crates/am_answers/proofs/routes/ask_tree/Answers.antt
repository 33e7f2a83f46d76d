use Rattle.std.proofs.Common.{sym, subst}
use Rattle.std.proofs.lemmas.Result.{IfOk-weaker}
use Rattle.am_config.specs.RouteLists.{root_of}
use Rattle.am_answers.specs.Asking.{AsksTree, found, none_found}
use Rattle.am_answers.proofs.routes.ask_tree.Goals as goal

pub returns-in-Ok-clause-asks : goal.returns-in-Ok-clause-asks
returns-in-Ok-clause-asks c =
    IfOk-weaker c.matched_answers.result _ _ (λ _ are. subst (AsksTree c.args.labels.now (root_of c.args.config.now.tree)) (sym are) (found c.in-Ok.ensures.matched)) c.matched_answers.ensures

pub returns-in-Err-clause-asks : goal.returns-in-Err-clause-asks
returns-in-Err-clause-asks c =
    IfOk-weaker c.one.result _ _ (λ _ are. subst (AsksTree c.args.labels.now (root_of c.args.config.now.tree)) (sym are) none_found) c.one.ensures
