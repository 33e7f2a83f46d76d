use Rattle.std.proofs.Common.{◌≡◌, ◌∙◌, List, Some, ap, sym, subst}
use Rattle.am_runner.specs.Sessions.{SessionView, Does, left, nothing_to_leave, index_named}
use Rattle.am_script.specs.declared.command.Command.TheVariants.{Leave}
use Rattle.am_answers.specs.declared.answer.Answer.{Answer}
use Rattle.am_runner.proofs.session.Session.leave.Goals as goal

pub returns-in-Some-clause-does : goal.returns-in-Some-clause-does
returns-in-Some-clause-does g c config setting =
    let here : index_named c.args.name.now c.args.self.now.opened ≡ Some c.in-Some.index =
    ap (λ (s : SessionView). index_named c.args.name.now s.opened) (sym c.self.view_is) ∙ (ap (index_named c.args.name.now) (sym c.deref.ensures.value) ∙ (sym c.index_named.ensures ∙ c.in-Some.is)) in
    subst (λ (given : List Answer). Does config setting c.args.self.now (Leave c.args.name.now) given c.leave_at-taken.new.self) (sym c.filled.ensures) (left here c.leave_at-taken.ensures)

pub returns-in-None-clause-does : goal.returns-in-None-clause-does
returns-in-None-clause-does g c config setting =
    subst (λ (given : List Answer). Does config setting c.args.self.now (Leave c.args.name.now) given c.args.self.now) (sym c.filled-in-None.ensures)
    (nothing_to_leave (ap (λ (s : SessionView). index_named c.args.name.now s.opened) (sym c.self.view_is) ∙ (ap (index_named c.args.name.now) (sym c.deref.ensures.value) ∙ (sym c.index_named.ensures ∙ c.in-None.is))))
