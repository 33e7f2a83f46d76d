use Rattle.std.proofs.Common.{List, sym, subst}
use Rattle.am_runner.specs.Sessions.{SessionView, Does, stored, stored_refused}
use Rattle.am_answers.specs.declared.answer.Answer.{Answer}
use Rattle.am_script.specs.declared.command.Command.TheVariants.{Stored}
use Rattle.am_runner.proofs.Named.{on_front}
use Rattle.am_runner.proofs.Results.{if_ok_map, on_err}
use Rattle.am_runner.proofs.session.Session.stored.Goals as goal

pub returns-clause-does : goal.returns-clause-does
returns-clause-does g c =
    let inside : SessionView = record { pass = c.self.inside.caller.pass; front = c.self.inside.caller.front; opened = c.self.inside.opened.items } in
    if_ok_map c.stored_answers.result c.stored_answers.ensures (λ answers are config setting.
    on_front config setting Stored answers.items c.args.self.now inside _ c.stored.new.caller.front c.self.view_is c.in-Ok.ensures.pass
    (subst (λ (given : List Answer). Does config setting inside Stored given (record inside { front = c.stored.new.caller.front })) (sym are)
    (stored c.in-Ok.ensures.sees)))

pub returns-clause-asked : goal.returns-clause-asked
returns-clause-asked g c =
    on_err c.stored_answers.result (λ config setting. (
      _,
      on_front config setting Stored _ c.args.self.now (record { pass = c.self.inside.caller.pass; front = c.self.inside.caller.front; opened = c.self.inside.opened.items }) _ _ c.self.view_is c.in-Ok.ensures.pass (stored c.in-Ok.ensures.sees),
    ))

pub returns-in-Err-clause-does : goal.returns-in-Err-clause-does
returns-in-Err-clause-does g c =
    let inside : SessionView = record { pass = c.self.inside.caller.pass; front = c.self.inside.caller.front; opened = c.self.inside.opened.items } in
    if_ok_map c.one.result c.one.ensures (λ answers are config setting.
    on_front config setting Stored answers.items c.args.self.now inside _ c.stored.new.caller.front c.self.view_is c.in-Err.ensures.pass
    (subst (λ (given : List Answer). Does config setting inside Stored given (record inside { front = c.stored.new.caller.front })) (sym are)
    (stored_refused c.in-Err.ensures.sees)))

pub returns-in-Err-clause-asked : goal.returns-in-Err-clause-asked
returns-in-Err-clause-asked g c =
    on_err c.one.result (λ config setting. (
      _,
      on_front config setting Stored _ c.args.self.now (record { pass = c.self.inside.caller.pass; front = c.self.inside.caller.front; opened = c.self.inside.opened.items }) _ _ c.self.view_is c.in-Err.ensures.pass (stored_refused c.in-Err.ensures.sees),
    ))
