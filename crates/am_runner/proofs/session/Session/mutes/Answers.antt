use Rattle.std.proofs.Common.{◌≡◌, ◌∙◌, List, ap, sym, subst, length}
use Rattle.std.proofs.lemmas.List.{with_items_is}
use Rattle.am_runner.specs.Reading.{OpenView}
use Rattle.am_runner.specs.Sessions.{SessionView, Does, IsAskedAt, IsOne, mutes, named_in}
use Rattle.am_script.specs.declared.command.Command.TheVariants.{Mutes}
use Rattle.am_runner.proofs.Results.{if_ok_map, on_err}
use Rattle.am_runner.proofs.session.Session.mutes.Goals as goal

pub returns-clause-does : goal.returns-clause-does
returns-clause-does g c =
    if_ok_map c.ask_named.result c.ask_named.ensures.asked (λ answers asked config setting.
    let command = Mutes c.args.name.now c.args.at c.args.labels.now in
    let same : c.ask_named.new.opened ≡ c.self.inside.opened.items = c.ask_named.ensures.same ∙ c.deref_mut.ensures.value in
    let many : length c.ask_named.new.opened ≡ c.self.inside.opened.len = ap length same ∙ sym c.self.inside.opened.ok.0 in
    subst (λ (opened : List OpenView). Does config setting c.args.self.now command answers.items (record { pass = c.self.inside.caller.pass; front = c.self.inside.caller.front; opened = opened })) (sym (with_items_is c.self.inside.opened c.ask_named.new.opened many ∙ same))
    (subst (λ (old : SessionView). Does config setting old command answers.items (record { pass = c.self.inside.caller.pass; front = c.self.inside.caller.front; opened = c.self.inside.opened.items })) c.self.view_is
    (mutes (subst (λ (opened : List OpenView). IsOne (IsAskedAt c.args.labels.now c.args.at (named_in c.args.name.now opened)) answers.items) c.deref_mut.ensures.value asked))))

pub returns-clause-err : goal.returns-clause-err
returns-clause-err g c =
    let same : c.ask_named.new.opened ≡ c.self.inside.opened.items = c.ask_named.ensures.same ∙ c.deref_mut.ensures.value in
    let many : length c.ask_named.new.opened ≡ c.self.inside.opened.len = ap length same ∙ sym c.self.inside.opened.ok.0 in
    on_err c.ask_named.result (ap (λ (opened : List OpenView). record { pass = c.self.inside.caller.pass; front = c.self.inside.caller.front; opened = opened }) (with_items_is c.self.inside.opened c.ask_named.new.opened many ∙ same) ∙ c.self.view_is)
