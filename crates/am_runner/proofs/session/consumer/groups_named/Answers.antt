use Rattle.std.proofs.Common.{◌∙◌, Option, ap, sym, slice_get, slice_set}
use Rattle.std.proofs.lemmas.List.{set-get_or}
use Rattle.std.specs.Option.{option_and_then}
use Rattle.am_runner.specs.Sessions.{groups_told}
use Rattle.am_runner.proofs.Named.{lent}
use Rattle.am_runner.proofs.Results.{if_ok_map}
use Rattle.am_runner.proofs.session.consumer.groups_named.Goals as goal

pub returns-in-Some-clause-answers : goal.returns-in-Some-clause-answers
returns-in-Some-clause-answers g c =
    let here = sym c.index_named.ensures ∙ c.in-Some.is in
    let found = lent c.args.name.now c.args.opened.now c.in-Some.index c.index-opened-index.result here in
    if_ok_map c.groups.result c.groups.ensures.answers (λ answers are. are ∙ sym (ap (λ (p : Option _). groups_told c.args.at (option_and_then (slice_get c.args.opened.now) p)) here ∙ ap (groups_told c.args.at) found))

pub returns-in-Some-clause-same : goal.returns-in-Some-clause-same
returns-in-Some-clause-same g c =
    ap (slice_set c.args.opened.now c.in-Some.index) c.groups.ensures.same ∙ set-get_or c.args.opened.now c.in-Some.index c.index-opened-index.result

pub returns-in-None-clause-answers : goal.returns-in-None-clause-answers
returns-in-None-clause-answers g c =
    if_ok_map c.one.result c.one.ensures (λ answers are. are ∙ sym (ap (λ (p : Option _). groups_told c.args.at (option_and_then (slice_get c.args.opened.now) p)) (sym c.index_named.ensures ∙ c.in-None.is)))
