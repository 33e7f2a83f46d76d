use Rattle.std.proofs.Common.{sym, ◌∙◌}
use Rattle.am_script.proofs.names.follow_line.Goals as goal

pub returns : goal.returns
returns c = λ earlier holds.
    let its = c.in_ok-follow.ensures.ok earlier holds in
    let fits = c.if-not-branch-2.false in ((sym (c.in_ok-has_its_moment.ensures earlier holds) ∙ c.if-not-branch.false, sym its.0 ∙ fits), rw fits at its.1)
