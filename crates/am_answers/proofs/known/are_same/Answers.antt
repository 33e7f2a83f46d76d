use Rattle.std.proofs.Common.{◌∙◌, sym}
use Rattle.am_answers.proofs.Same.{alerts_decide}
use Rattle.am_answers.proofs.known.are_same.Goals as goal

pub returns : goal.returns
returns c =
    let same = alerts_decide c.args.one.now c.args.other.now in
    (λ is. same.0 (sym c.eq.ensures ∙ is), λ is. c.eq.ensures ∙ same.1 is)
