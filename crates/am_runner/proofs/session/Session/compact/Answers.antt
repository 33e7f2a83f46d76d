use Rattle.std.proofs.Common.{[], ◌∷◌, sym, subst}
use Rattle.am_alert.specs.declared.alert.Alert.{Alert}
use Rattle.am_store.specs.declared.call.Call.{Call}
use Rattle.am_cast.specs.Posters.{PassView}
use Rattle.am_runner.specs.Sessions.{SessionView, Does, compacted, compact_refused}
use Rattle.am_answers.specs.declared.answer.Answer.TheVariants.{Compacted, OutOfMemory}
use Rattle.am_script.specs.declared.command.Command.TheVariants.{Compact}
use Rattle.am_script.specs.declared.command.Verb.TheVariants as verb
use Rattle.am_runner.proofs.session.Session.compact.Goals as goal

pub returns : goal.returns
returns g c config setting =
    let command = Compact in
    subst (λ (old : SessionView). Does config setting old command (Compacted c.in-Ok.dropped ∷ []) (record { pass = c.compact.new.caller.pass; front = c.compact.new.caller.front; opened = c.self.inside.opened.items })) c.self.view_is
    (subst (λ (pass : PassView Alert Call). Does config setting (record { pass = c.self.inside.caller.pass; front = c.self.inside.caller.front; opened = c.self.inside.opened.items }) command (Compacted c.in-Ok.dropped ∷ []) (record { pass = pass; front = c.compact.new.caller.front; opened = c.self.inside.opened.items })) (sym c.in-Ok.ensures.pass)
    (compacted c.in-Ok.ensures.sees))

pub returns-in-Err : goal.returns-in-Err
returns-in-Err g c config setting =
    let command = Compact in
    subst (λ (old : SessionView). Does config setting old command (OutOfMemory verb.Compact ∷ []) (record { pass = c.compact.new.caller.pass; front = c.compact.new.caller.front; opened = c.self.inside.opened.items })) c.self.view_is
    (subst (λ (pass : PassView Alert Call). Does config setting (record { pass = c.self.inside.caller.pass; front = c.self.inside.caller.front; opened = c.self.inside.opened.items }) command (OutOfMemory verb.Compact ∷ []) (record { pass = pass; front = c.compact.new.caller.front; opened = c.self.inside.opened.items })) (sym c.in-Err.ensures.pass)
    (compact_refused c.in-Err.ensures.sees))
