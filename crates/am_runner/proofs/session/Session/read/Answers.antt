use Rattle.std.proofs.Common.{◌≡◌, ◌∙◌, List, Some, None, ap, sym, subst}
use Rattle.am_runner.specs.Sessions.{SessionView, Does, read, nothing_to_read, index_named}
use Rattle.am_answers.specs.declared.answer.Answer.{Answer}
use Rattle.am_script.specs.declared.command.Command.TheVariants.{Read}
use Rattle.am_runner.proofs.Results.{if_ok_map}
use Rattle.am_runner.proofs.session.Session.read.Goals as goal

pub returns-in-Some : goal.returns-in-Some
returns-in-Some g c =
    let here : index_named c.args.name.now c.args.self.now.opened ≡ Some c.in-Some.index =
    ap (λ (s : SessionView). index_named c.args.name.now s.opened) (sym c.self.view_is) ∙ (ap (index_named c.args.name.now) (sym c.deref.ensures.value) ∙ (sym c.index_named.ensures ∙ c.in-Some.is)) in
    if_ok_map c.read_at.result c.read_at.ensures (λ answers reads config setting. read here reads)

pub returns-in-None : goal.returns-in-None
returns-in-None g c =
    let none : index_named c.args.name.now c.args.self.now.opened ≡ None = ap (λ (s : SessionView). index_named c.args.name.now s.opened) (sym c.self.view_is) ∙ (ap (index_named c.args.name.now) (sym c.deref.ensures.value) ∙ (sym c.index_named.ensures ∙ c.in-None.is)) in
    if_ok_map c.one.result c.one.ensures (λ answers are config setting.
    subst (λ (given : List Answer). Does config setting c.args.self.now (Read c.args.name.now c.args.max) given c.args.self.now) (sym are) (nothing_to_read none))
