use Rattle.std.proofs.Common.{◌≡◌, ℕ, List, Option, ap, sym, subst, length, ◌∙◌}
use Rattle.std.proofs.lemmas.List.{with_items_is}
use Rattle.am_runner.specs.Reading.{OpenView}
use Rattle.am_runner.specs.Sessions.{SessionView, Does, groups, groups_told, named_in}
use Rattle.am_script.specs.declared.command.Command.TheVariants.{Groups}
use Rattle.am_runner.proofs.Results.{if_ok_map, on_err}
use Rattle.am_runner.proofs.session.Session.groups.Goals as goal

pub returns-clause-does : goal.returns-clause-does
returns-clause-does g c =
    if_ok_map c.groups_named.result c.groups_named.ensures.answers (λ answers are config setting.
    let command = Groups c.args.name.now c.args.at in
    let same : c.groups_named.new.opened ≡ c.self.inside.opened.items = c.groups_named.ensures.same ∙ c.deref_mut.ensures.value in
    let many : length c.groups_named.new.opened ≡ c.self.inside.opened.len = ap length same ∙ sym c.self.inside.opened.ok.0 in
    subst (λ (opened : List OpenView). Does config setting c.args.self.now command answers.items (record { pass = c.self.inside.caller.pass; front = c.self.inside.caller.front; opened = opened })) (sym (with_items_is c.self.inside.opened c.groups_named.new.opened many ∙ same))
    (subst (λ (old : SessionView). Does config setting old command answers.items (record { pass = c.self.inside.caller.pass; front = c.self.inside.caller.front; opened = c.self.inside.opened.items })) c.self.view_is
    (groups (are ∙ (ap (λ (opened : List OpenView). groups_told c.moment.result (named_in c.args.name.now opened)) c.deref_mut.ensures.value ∙ ap (λ (at : Option ℕ). groups_told at (named_in c.args.name.now c.self.inside.opened.items)) c.moment.ensures)))))

pub returns-clause-err : goal.returns-clause-err
returns-clause-err g c =
    let same : c.groups_named.new.opened ≡ c.self.inside.opened.items = c.groups_named.ensures.same ∙ c.deref_mut.ensures.value in
    let many : length c.groups_named.new.opened ≡ c.self.inside.opened.len = ap length same ∙ sym c.self.inside.opened.ok.0 in
    on_err c.groups_named.result (ap (λ (opened : List OpenView). record { pass = c.self.inside.caller.pass; front = c.self.inside.caller.front; opened = opened }) (with_items_is c.self.inside.opened c.groups_named.new.opened many ∙ same) ∙ c.self.view_is)
