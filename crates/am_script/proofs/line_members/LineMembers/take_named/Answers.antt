use Rattle.std.proofs.Common.{◌∙◌, Some, ap, sym}
use Rattle.am_script.proofs.LineMembers.{reads_leave, reads_read, reads_subscribe}
use Rattle.am_script.proofs.line_members.LineMembers.take_named.Goals as goal

pub returns-in-Subscribe : goal.returns-in-Subscribe
returns-in-Subscribe c ms those is =
    reads_subscribe c.args.self.now ms those c.in_ok-name.name (is ∙ ap Some c.in-Subscribe.is) (sym c.take.ensures.value ∙ c.in_ok-name.was)

pub returns-in-Read : goal.returns-in-Read
returns-in-Read c ms those is = reads_read c.args.self.now ms those c.in_ok-name.name (is ∙ ap Some c.in-Read.is) (sym c.take.ensures.value ∙ c.in_ok-name.was)

pub returns-in-Leave : goal.returns-in-Leave
returns-in-Leave c ms those is = reads_leave c.args.self.now ms those c.in_ok-name.name (is ∙ ap Some c.in-Leave.is) (sym c.take.ensures.value ∙ c.in_ok-name.was)
