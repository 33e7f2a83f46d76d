use Rattle.std.proofs.Common.{refl, sym, subst}
use Rattle.am_config.specs.RouteLists.{root_of}
use Rattle.am_config.specs.declared.config.Config.{Config}
use Rattle.am_script.specs.declared.command.Command.{Command}
use Rattle.am_script.specs.declared.command.Command.TheVariants.{Get, Stored, StoredPage}
use Rattle.am_answers.specs.Asking.{ShowsTree}
use Rattle.am_runner.specs.Sessions.{Does, routes, route, setting_of}
use Rattle.am_runner.specs.Unanswered.{not_done}
use Rattle.am_runner.proofs.LostAnswers.{asked, kept}
use Rattle.am_runner.proofs.Results.{if_ok_map, on_err, on_err_map}
use Rattle.am_runner.proofs.session.Session.run.Goals as goal

pub returns-in-Routes-clause-does : goal.returns-in-Routes-clause-does
returns-in-Routes-clause-does g c =
    let setting = setting_of g.N.Recorded.places g.N.Recorded.policy c.args.context.now.provider.now.resolve_timeout in
    if_ok_map c.show_tree.result c.show_tree.ensures (λ answers shows.
    subst (λ (command : Command). Does c.args.context.now.config setting c.args.self.now command answers.items c.args.self.now) (sym c.in-Routes.is)
    (routes (subst (λ (config : Config). ShowsTree (root_of config.tree) answers.items) c.config.ensures shows)))

pub returns-in-Route-clause-does : goal.returns-in-Route-clause-does
returns-in-Route-clause-does g c =
    let setting = setting_of g.N.Recorded.places g.N.Recorded.policy c.args.context.now.provider.now.resolve_timeout in
    if_ok_map c.ask_tree.result c.ask_tree.ensures.asks (λ answers asks.
    subst (λ (command : Command). Does c.args.context.now.config setting c.args.self.now command answers.items c.args.self.now) (sym c.in-Route.is) (route asks))

pub returns-in_err-make-in-Subscribe-clause-unanswered : goal.returns-in_err-make-in-Subscribe-clause-unanswered
returns-in_err-make-in-Subscribe-clause-unanswered g c = on_err c.from_residual.result (λ safe. not_done)

pub returns-in_err-make-in-Close-clause-unanswered : goal.returns-in_err-make-in-Close-clause-unanswered
returns-in_err-make-in-Close-clause-unanswered g c = on_err c.from_residual-in_err-make-in-Close.result (λ safe. not_done)

pub returns-in_err-make-in-Trim-clause-unanswered : goal.returns-in_err-make-in-Trim-clause-unanswered
returns-in_err-make-in-Trim-clause-unanswered g c = on_err c.from_residual-in_err-make-in-Trim.result (λ safe. not_done)

pub returns-in_err-make-in-Compact-clause-unanswered : goal.returns-in_err-make-in-Compact-clause-unanswered
returns-in_err-make-in-Compact-clause-unanswered g c = on_err c.from_residual-in_err-make-in-Compact.result (λ safe. not_done)

pub returns-in_err-make-in-Get-clause-unanswered : goal.returns-in_err-make-in-Get-clause-unanswered
returns-in_err-make-in-Get-clause-unanswered g c = on_err c.from_residual-in_err-make-in-Get.result (λ safe. not_done)

pub returns-in_err-subscribe-in-Subscribe-clause-unanswered : goal.returns-in_err-subscribe-in-Subscribe-clause-unanswered
returns-in_err-subscribe-in-Subscribe-clause-unanswered g c =
    on_err c.from_residual-in_err-subscribe-in-Subscribe.result (λ safe. kept _ _ _ _ _ c.in_err-subscribe-in-Subscribe.ensures.err)

pub returns-in_err-get-in-Get-clause-unanswered : goal.returns-in_err-get-in-Get-clause-unanswered
returns-in_err-get-in-Get-clause-unanswered g c =
    on_err c.from_residual-in_err-get-in-Get.result (λ safe. asked _ _ _ _ _ (Get c.in-Get.labels) c.in-Get.is refl (c.in_err-get-in-Get.ensures.asked _ _))

pub returns-in-Groups-clause-unanswered : goal.returns-in-Groups-clause-unanswered
returns-in-Groups-clause-unanswered g c = on_err_map c.groups.result c.groups.ensures.err (λ is safe. kept _ _ _ _ _ is)

pub returns-in-Sweep-clause-unanswered : goal.returns-in-Sweep-clause-unanswered
returns-in-Sweep-clause-unanswered g c = on_err_map c.sweep.result c.sweep.ensures.err (λ is safe. kept _ _ _ _ _ is)

pub returns-in-Forget-clause-unanswered : goal.returns-in-Forget-clause-unanswered
returns-in-Forget-clause-unanswered g c = on_err_map c.sweep-in-Forget.result c.sweep-in-Forget.ensures.err (λ is safe. kept _ _ _ _ _ is)

pub returns-in-Stored-clause-unanswered : goal.returns-in-Stored-clause-unanswered
returns-in-Stored-clause-unanswered g c =
    on_err_map c.stored.result c.stored.ensures.asked (λ done safe. asked _ _ _ _ _ Stored c.in-Stored.is refl (done _ _))

pub returns-in-StoredPage-clause-unanswered : goal.returns-in-StoredPage-clause-unanswered
returns-in-StoredPage-clause-unanswered g c =
    on_err_map c.stored_page.result c.stored_page.ensures.asked (λ done safe. asked _ _ _ _ _ (StoredPage _ _) c.in-StoredPage.is refl (done _ _))

pub returns-in-Routes-clause-unanswered : goal.returns-in-Routes-clause-unanswered
returns-in-Routes-clause-unanswered g c = on_err c.show_tree.result (λ safe. not_done)

pub returns-in-Route-clause-unanswered : goal.returns-in-Route-clause-unanswered
returns-in-Route-clause-unanswered g c = on_err c.ask_tree.result (λ safe. not_done)

pub returns-in-Mutes-clause-unanswered : goal.returns-in-Mutes-clause-unanswered
returns-in-Mutes-clause-unanswered g c =
    on_err_map c.mutes.result c.mutes.ensures.err (λ is safe. kept _ _ _ _ _ is)

pub returns-in-Leave-clause-unanswered : goal.returns-in-Leave-clause-unanswered
returns-in-Leave-clause-unanswered g c = on_err_map c.leave.result c.leave.ensures.err (λ is safe. kept _ _ _ _ _ is)

pub returns-in-Collect-clause-unanswered : goal.returns-in-Collect-clause-unanswered
returns-in-Collect-clause-unanswered g c = on_err_map c.collect.result c.collect.ensures.err (λ is safe. kept _ _ _ _ _ is)
