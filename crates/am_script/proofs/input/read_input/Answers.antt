use Rattle.am_script.proofs.Inputs.{read_excess}
use Rattle.am_script.proofs.input.read_input.Goals as goal

pub returns-in-Full-clause-text : goal.returns-in-Full-clause-text
returns-in-Full-clause-text g c =
    let full = rw c.in-Full.is at c.in_ok-more.ensures in
    read_excess _ _ _ c.loop-turn.counter _ _ c.in-Full.text.items full.1.0 full.1.1 c.loop-turn.invariant c.in_ok-count.ensures.read c.split_at.ensures.front full.1.2
    full.1.3 full.0
