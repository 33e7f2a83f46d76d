use Rattle.std.proofs.Common.{◌∷◌, [], List, sym, subst}
use Rattle.am_alert.specs.declared.alert.Alert.{Alert}
use Rattle.am_store.specs.declared.call.Call.{Call}
use Rattle.am_cast.specs.Posters.{PassView}
use Rattle.am_runner.specs.Sessions.{SessionView, Does, took, take_refused, taken_answers}
use Rattle.am_answers.specs.declared.answer.Answer.{Answer}
use Rattle.am_answers.specs.declared.answer.Answer.TheVariants.{OutOfMemory}
use Rattle.am_script.specs.declared.command.Command.TheVariants.{Take}
use Rattle.am_script.specs.declared.command.Verb.TheVariants as verb
use Rattle.am_runner.proofs.Results.{if_ok_map}
use Rattle.am_runner.proofs.session.Session.take.Goals as goal

pub returns : goal.returns
returns g c =
    if_ok_map c.taken_answers.result c.taken_answers.ensures (λ answers are config setting.
    subst (λ (given : List Answer). Does config setting c.args.self.now (Take c.args.at) given (record { pass = c.take_resolved.new.caller.pass; front = c.take_resolved.new.caller.front; opened = c.self.inside.opened.items })) (sym are)
    (subst (λ (old : SessionView). Does config setting old (Take c.args.at) (taken_answers c.in-Ok.removed) (record { pass = c.take_resolved.new.caller.pass; front = c.take_resolved.new.caller.front; opened = c.self.inside.opened.items })) c.self.view_is
    (subst (λ (pass : PassView Alert Call). Does config setting (record { pass = c.self.inside.caller.pass; front = c.self.inside.caller.front; opened = c.self.inside.opened.items }) (Take c.args.at) (taken_answers c.in-Ok.removed) (record { pass = pass; front = c.take_resolved.new.caller.front; opened = c.self.inside.opened.items })) (sym c.in-Ok.ensures.pass)
    (took c.in-Ok.ensures.sees))))

pub returns-in-Err : goal.returns-in-Err
returns-in-Err g c =
    if_ok_map c.one.result c.one.ensures (λ answers are config setting.
    subst (λ (given : List Answer). Does config setting c.args.self.now (Take c.args.at) given (record { pass = c.take_resolved.new.caller.pass; front = c.take_resolved.new.caller.front; opened = c.self.inside.opened.items })) (sym are)
    (subst (λ (old : SessionView). Does config setting old (Take c.args.at) (OutOfMemory verb.Take ∷ []) (record { pass = c.take_resolved.new.caller.pass; front = c.take_resolved.new.caller.front; opened = c.self.inside.opened.items })) c.self.view_is
    (subst (λ (pass : PassView Alert Call). Does config setting (record { pass = c.self.inside.caller.pass; front = c.self.inside.caller.front; opened = c.self.inside.opened.items }) (Take c.args.at) (OutOfMemory verb.Take ∷ []) (record { pass = pass; front = c.take_resolved.new.caller.front; opened = c.self.inside.opened.items })) (sym c.in-Err.ensures.pass)
    (take_refused c.in-Err.ensures.sees))))
