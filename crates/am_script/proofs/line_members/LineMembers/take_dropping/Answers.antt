use Rattle.std.proofs.Common.{◌∙◌, Some, ap, sym}
use Rattle.am_script.proofs.LineMembers.{reads_forget, reads_sweep}
use Rattle.am_script.proofs.line_members.LineMembers.take_dropping.Goals as goal

pub returns-in-Sweep : goal.returns-in-Sweep
returns-in-Sweep c ms those is =
    reads_sweep c.args.self.now ms those c.in_ok-name.name c.in_ok-at.at (is ∙ ap Some c.in-Sweep.is) (sym c.take.ensures.value ∙ c.in_ok-name.was) c.in_ok-at.was

pub returns-in-Forget : goal.returns-in-Forget
returns-in-Forget c ms those is =
    reads_forget c.args.self.now ms those c.in_ok-name.name c.in_ok-at.at (is ∙ ap Some c.in-Forget.is) (sym c.take.ensures.value ∙ c.in_ok-name.was) c.in_ok-at.was
