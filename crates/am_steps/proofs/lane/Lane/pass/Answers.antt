use Rattle.std.proofs.Common.{◌+◌, sym, subst, ap, ◌∙◌, cond, Some, None, Fits, w64}
use Rattle.am_steps.specs.inside.LaneRows.{place_in_hand}
use Rattle.am_steps.proofs.lane.Lane.pass.Goals as goal

pub overflow_add-cursor : goal.overflow_add-cursor
overflow_add-cursor g c = let r = c.in-Open.cursor in let held = ap (λ r. r.held) (sym c.cursor.view_is) ∙ c.if-not-cursor.false in
    let fits : Fits w64 (r.passed + 1) = record { fits = c.requires.fits r.passed (ap place_in_hand c.in-Open.is ∙ ap (λ b. cond b (Some r.passed) None) held) } in
    subst (λ r. Fits w64 (r.passed + 1)) (sym c.cursor.view_is) fits
