use Rattle.std.proofs.Common.{◌∷◌, [], sym, subst}
use Rattle.am_runner.specs.Sessions.{SessionView, Does, got, get_refused}
use Rattle.am_answers.specs.declared.answer.Answer.{Answer}
use Rattle.am_script.specs.declared.command.Command.TheVariants.{Get}
use Rattle.am_runner.proofs.Named.{on_front}
use Rattle.am_runner.proofs.Results.{if_ok_map, on_err}
use Rattle.am_runner.proofs.session.Session.get.Goals as goal

pub returns-clause-does : goal.returns-clause-does
returns-clause-does g c =
    let inside : SessionView = record { pass = c.self.inside.caller.pass; front = c.self.inside.caller.front; opened = c.self.inside.opened.items } in
    if_ok_map c.found_answer.result c.found_answer.ensures (λ answer is config setting.
    on_front config setting (Get c.args.labels.now) (answer ∷ []) c.args.self.now inside _ c.get.new.caller.front c.self.view_is c.in-Ok.ensures.pass
    (subst (λ (given : Answer). Does config setting inside (Get c.args.labels.now) (given ∷ []) (record inside { front = c.get.new.caller.front })) (sym is)
    (got c.in-Ok.found c.in-Ok.ensures.sees)))

pub returns-clause-asked : goal.returns-clause-asked
returns-clause-asked g c =
    on_err c.found_answer.result (λ config setting. (
      _,
      on_front config setting (Get c.args.labels.now) _ c.args.self.now (record { pass = c.self.inside.caller.pass; front = c.self.inside.caller.front; opened = c.self.inside.opened.items }) _ _ c.self.view_is c.in-Ok.ensures.pass (got c.in-Ok.found c.in-Ok.ensures.sees),
    ))

pub returns-in-Err-clause-does : goal.returns-in-Err-clause-does
returns-in-Err-clause-does g c config setting =
    on_front config setting (Get c.args.labels.now) _ c.args.self.now (record { pass = c.self.inside.caller.pass; front = c.self.inside.caller.front; opened = c.self.inside.opened.items }) _ _ c.self.view_is c.in-Err.ensures.pass (get_refused c.in-Err.ensures.sees)
