use Rattle.am_script.proofs.LineMembers.{reads_line}
use Rattle.am_script.proofs.line_members.LineMembers.take_line.Goals as goal

pub returns : goal.returns
returns c ms those =
    reads_line c.args.self.now ms those c.args.number c.in_ok-thread.thread c.in_ok-command.command c.in_ok-thread.was (c.in_ok-command.ensures ms those)
