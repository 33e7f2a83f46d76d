use Rattle.std.proofs.Common.{[], ◌∷◌, sym, subst}
use Rattle.am_alert.specs.declared.alert.Alert.{Alert}
use Rattle.am_store.specs.declared.call.Call.{Call}
use Rattle.am_cast.specs.Posters.{PassView}
use Rattle.am_runner.specs.Sessions.{SessionView, Does, closed, close_refused}
use Rattle.am_answers.specs.declared.answer.Answer.TheVariants.{CloseAccepted, CloseRefused}
use Rattle.am_script.specs.declared.command.Command.TheVariants.{Close}
use Rattle.am_runner.proofs.session.Session.close.Goals as goal

pub returns : goal.returns
returns g c config setting =
    let command = Close in
    subst (λ (old : SessionView). Does config setting old command (CloseAccepted ∷ []) (record { pass = c.close.new.caller.pass; front = c.close.new.caller.front; opened = c.self.inside.opened.items })) c.self.view_is
    (subst (λ (pass : PassView Alert Call). Does config setting (record { pass = c.self.inside.caller.pass; front = c.self.inside.caller.front; opened = c.self.inside.opened.items }) command (CloseAccepted ∷ []) (record { pass = pass; front = c.close.new.caller.front; opened = c.self.inside.opened.items })) (sym c.in-Ok.ensures.pass)
    (closed c.in-Ok.ensures.sees))

pub returns-in_default : goal.returns-in_default
returns-in_default g c config setting =
    let command = Close in
    subst (λ (old : SessionView). Does config setting old command (CloseRefused ∷ []) (record { pass = c.close.new.caller.pass; front = c.close.new.caller.front; opened = c.self.inside.opened.items })) c.self.view_is
    (subst (λ (pass : PassView Alert Call). Does config setting (record { pass = c.self.inside.caller.pass; front = c.self.inside.caller.front; opened = c.self.inside.opened.items }) command (CloseRefused ∷ []) (record { pass = pass; front = c.close.new.caller.front; opened = c.self.inside.opened.items })) (sym c.in_default.ensures.pass)
    (close_refused c.in_default.ensures.sees))
