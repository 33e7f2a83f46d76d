use Rattle.std.proofs.Common.{◌∙◌, rules}
use Rattle.sinnoraku.proofs.crew_threads.run_registered.Goals as goal

pub returns : goal.returns
returns g c =
    let turns = c.conclude.ensures.0 in
    (c.in_ok-done.ensures.0 ∙ search rules, turns, c.in_ok-done.ensures.1 turns c.conclude.ensures.1)
