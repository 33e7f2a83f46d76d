use Rattle.std.proofs.Common.{◌≡◌, refl, subst}
use Rattle.am_runner.specs.live.Serving.{CompactsIfDue, compacts, not_due}
use Rattle.am_runner.specs.live.Standing.{RunView}
use Rattle.am_runner.proofs.live.live_run.LiveRun.compact_if_due.Goals as goal

pub returns-then-not-is_due : goal.returns-then-not-is_due
returns-then-not-is_due g c config setting = (not_due, refl)

pub returns : goal.returns
returns g c config setting =
    let now : RunView = record { session = c.compact_and_vouch-stored.new.self; follows = c.self.inside.follows; reads = c.self.inside.reads.items; known = c.self.inside.known.entries } in
    subst (λ (old : RunView). CompactsIfDue config setting old.session now.session × (now ≡ record old { session = now.session })) c.self.view_is
    (compacts (c.compact_and_vouch-stored.ensures config setting), refl)
