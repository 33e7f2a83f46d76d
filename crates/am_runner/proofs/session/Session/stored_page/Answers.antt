use Rattle.std.proofs.Common.{◌∷◌, [], List, sym, subst}
use Rattle.am_runner.specs.Sessions.{SessionView, Does, paged, page_refused, page_answers}
use Rattle.am_runner.specs.Unanswered.{IsDone}
use Rattle.am_answers.specs.declared.answer.Answer.{Answer}
use Rattle.am_answers.specs.declared.answer.Answer.TheVariants.{OutOfMemory}
use Rattle.am_script.specs.declared.command.Command.TheVariants.{StoredPage}
use Rattle.am_script.specs.declared.command.Verb.TheVariants as verb
use Rattle.am_runner.proofs.Results.{if_ok_map, on_err}
use Rattle.am_runner.proofs.session.Session.stored_page.Goals as goal

pub returns-clause-does : goal.returns-clause-does
returns-clause-does g c =
    if_ok_map c.page_answers.result c.page_answers.ensures (λ answers are config setting.
    let command = StoredPage c.args.from c.args.max in
    subst (λ (given : List Answer). Does config setting c.args.self.now command given c.page.new.self) (sym are)
    (subst (λ (now : SessionView). Does config setting c.args.self.now command (page_answers c.args.from c.in-Ok.page) now) (sym c.in-Ok.ensures.same)
    (paged c.in-Ok.ensures.sees)))

pub returns-clause-asked : goal.returns-clause-asked
returns-clause-asked g c =
    on_err c.page_answers.result (λ config setting.
    subst (IsDone config setting c.args.self.now (StoredPage c.args.from c.args.max)) (sym c.in-Ok.ensures.same) (_, paged c.in-Ok.ensures.sees))

pub returns-in-Err-clause-does : goal.returns-in-Err-clause-does
returns-in-Err-clause-does g c =
    if_ok_map c.one.result c.one.ensures (λ answers are config setting.
    let command = StoredPage c.args.from c.args.max in
    subst (λ (given : List Answer). Does config setting c.args.self.now command given c.page.new.self) (sym are)
    (subst (λ (now : SessionView). Does config setting c.args.self.now command (OutOfMemory verb.Stored ∷ []) now) (sym c.in-Err.ensures.same)
    (page_refused c.in-Err.ensures.sees)))

pub returns-in-Err-clause-asked : goal.returns-in-Err-clause-asked
returns-in-Err-clause-asked g c =
    on_err c.one.result (λ config setting.
    subst (IsDone config setting c.args.self.now (StoredPage c.args.from c.args.max)) (sym c.in-Err.ensures.same) (_, page_refused c.in-Err.ensures.sees))
