use Rattle.std.proofs.Common.{ap, sym, ◌∙◌}
use Rattle.am_script.specs.declared.command.Command.TheVariants.{Subscribe, Read, Leave}
use Rattle.am_script.proofs.Naming.{subscribe_follows, leave_follows, read_follows}
use Rattle.am_script.proofs.names.follow.Goals as goal

pub returns-in_ok-copy-in-Subscribe-clause-ok : goal.returns-in_ok-copy-in-Subscribe-clause-ok
returns-in_ok-copy-in-Subscribe-clause-ok c =
    subscribe_follows c.subscribe.result c.args.names.now c.subscribe.new.names c.args.line.now c.in_ok-copy-in-Subscribe.field-0 c.in-Subscribe.kind
    (c.in-Subscribe.is ∙ ap (λ name. Subscribe name c.in-Subscribe.kind) (sym c.in_ok-copy-in-Subscribe.ensures))
    c.subscribe.ensures.fits c.subscribe.ensures.added c.subscribe.ensures.same

pub returns-in_ok-copy-in-Leave-clause-ok : goal.returns-in_ok-copy-in-Leave-clause-ok
returns-in_ok-copy-in-Leave-clause-ok c =
    leave_follows c.is_some.result c.remove.result c.args.names.now c.remove.new.self c.args.line.now c.in_ok-copy-in-Leave.field-0
    (c.in-Leave.is ∙ ap Leave (sym c.in_ok-copy-in-Leave.ensures)) c.is_some.ensures c.remove.ensures.value c.remove.ensures.updates c.remove.ensures.unchanged

pub returns-in_ok-copy-in-Read-clause-ok : goal.returns-in_ok-copy-in-Read-clause-ok
returns-in_ok-copy-in-Read-clause-ok c =
    read_follows c.contains_key.result c.args.names.now c.args.line.now c.in_ok-copy-in-Read.field-0 c.in-Read.max
    (c.in-Read.is ∙ ap (λ name. Read name c.in-Read.max) (sym c.in_ok-copy-in-Read.ensures)) c.contains_key.ensures
