use Rattle.std.proofs.Common.{[], ◌∷◌, List, sym, subst}
use Rattle.am_alert.specs.declared.alert.Alert.{Alert}
use Rattle.am_store.specs.declared.call.Call.{Call}
use Rattle.am_cast.specs.Posters.{PassView}
use Rattle.am_runner.specs.Sessions.{SessionView, Does, collected, collect_refused}
use Rattle.am_answers.specs.declared.answer.Answer.TheVariants.{Collected, OutOfMemory}
use Rattle.am_script.specs.declared.command.Command.TheVariants.{Collect}
use Rattle.am_script.specs.declared.command.Verb.TheVariants as verb
use Rattle.am_answers.specs.declared.answer.Answer.{Answer}
use Rattle.am_runner.proofs.session.Session.collect.Goals as goal

pub returns-clause-does : goal.returns-clause-does
returns-clause-does g c config setting =
    let command = Collect c.args.at in
    subst (λ (given : List Answer). Does config setting c.args.self.now command given (record { pass = c.collect_resolved.new.caller.pass; front = c.collect_resolved.new.caller.front; opened = c.self.inside.opened.items })) (sym c.filled-2.ensures)
    (subst (λ (old : SessionView). Does config setting old command (Collected c.in-Ok.removed ∷ []) (record { pass = c.collect_resolved.new.caller.pass; front = c.collect_resolved.new.caller.front; opened = c.self.inside.opened.items })) c.self.view_is
    (subst (λ (pass : PassView Alert Call). Does config setting (record { pass = c.self.inside.caller.pass; front = c.self.inside.caller.front; opened = c.self.inside.opened.items }) command (Collected c.in-Ok.removed ∷ []) (record { pass = pass; front = c.collect_resolved.new.caller.front; opened = c.self.inside.opened.items })) (sym c.in-Ok.ensures.pass)
    (collected c.in-Ok.ensures.sees)))

pub returns-in-Err-clause-does : goal.returns-in-Err-clause-does
returns-in-Err-clause-does g c config setting =
    let command = Collect c.args.at in
    subst (λ (given : List Answer). Does config setting c.args.self.now command given (record { pass = c.collect_resolved.new.caller.pass; front = c.collect_resolved.new.caller.front; opened = c.self.inside.opened.items })) (sym c.filled.ensures)
    (subst (λ (old : SessionView). Does config setting old command (OutOfMemory verb.Collect ∷ []) (record { pass = c.collect_resolved.new.caller.pass; front = c.collect_resolved.new.caller.front; opened = c.self.inside.opened.items })) c.self.view_is
    (subst (λ (pass : PassView Alert Call). Does config setting (record { pass = c.self.inside.caller.pass; front = c.self.inside.caller.front; opened = c.self.inside.opened.items }) command (OutOfMemory verb.Collect ∷ []) (record { pass = pass; front = c.collect_resolved.new.caller.front; opened = c.self.inside.opened.items })) (sym c.in-Err.ensures.pass)
    (collect_refused c.in-Err.ensures.sees)))
