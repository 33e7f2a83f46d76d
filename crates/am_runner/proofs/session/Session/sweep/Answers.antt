use Rattle.std.proofs.Common.{◌≡◌, ◌∙◌, List, ap, sym, subst, length}
use Rattle.std.proofs.lemmas.List.{with_items_is}
use Rattle.am_answers.specs.Consuming.{sweep_word}
use Rattle.am_runner.specs.Reading.{OpenView}
use Rattle.am_runner.specs.Sessions.{SessionView, Does, IsOne, SweepsNamed, SweepsOne, sweep_command}
use Rattle.am_runner.proofs.Named.{as_many, swept_so}
use Rattle.am_runner.proofs.Results.{if_ok_map, on_err_map}
use Rattle.am_runner.proofs.session.Session.sweep.Goals as goal

pub returns-clause-does : goal.returns-clause-does
returns-clause-does g c =
    if_ok_map c.sweep_named.result c.sweep_named.ensures.sweeps (λ answers does config setting.
    let old : SessionView = record { pass = c.self.inside.caller.pass; front = c.self.inside.caller.front; opened = c.self.inside.opened.items } in
    let many : length c.sweep_named.new.opened ≡ c.self.inside.opened.len = as_many c.args.name.now (sweep_word c.args.half) (λ before given after. IsOne (λ one. SweepsOne c.args.half c.args.at before one after) given) c.deref_mut.result.now c.sweep_named.new.opened answers.items does ∙ (ap length c.deref_mut.ensures.value ∙ sym c.self.inside.opened.ok.0) in
    subst (λ (opened : List OpenView). Does config setting c.args.self.now (sweep_command c.args.half c.args.name.now c.args.at) answers.items (record { pass = c.self.inside.caller.pass; front = c.self.inside.caller.front; opened = opened })) (sym (with_items_is c.self.inside.opened c.sweep_named.new.opened many))
    (subst (λ (before : SessionView). Does config setting before (sweep_command c.args.half c.args.name.now c.args.at) answers.items (record { pass = c.self.inside.caller.pass; front = c.self.inside.caller.front; opened = c.sweep_named.new.opened })) c.self.view_is
    (swept_so config setting old c.args.half c.args.name.now c.args.at answers.items c.sweep_named.new.opened
    (subst (λ (opened : List OpenView). SweepsNamed c.args.half c.args.name.now c.args.at opened answers.items c.sweep_named.new.opened) c.deref_mut.ensures.value does))))

pub returns-clause-err : goal.returns-clause-err
returns-clause-err g c =
    on_err_map c.sweep_named.result c.sweep_named.ensures.err (λ is.
    let same : c.sweep_named.new.opened ≡ c.self.inside.opened.items = is ∙ c.deref_mut.ensures.value in
    let many : length c.sweep_named.new.opened ≡ c.self.inside.opened.len = ap length same ∙ sym c.self.inside.opened.ok.0 in
    ap (λ (opened : List OpenView). record { pass = c.self.inside.caller.pass; front = c.self.inside.caller.front; opened = opened }) (with_items_is c.self.inside.opened c.sweep_named.new.opened many ∙ same) ∙ c.self.view_is)
