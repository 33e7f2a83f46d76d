use Rattle.std.proofs.Common.{rules, ◌≡◌, ◌-◌, min, length, vec_len, ap, ◌∙◌, arith}
use Rattle.std.proofs.lemmas.List.{length-take-le}
use Rattle.am_inhibit.specs.inside.LeadingTargets.{leading_targets}
use Rattle.am_inhibit.proofs.LeadingTargets.{leading-taken}
use Rattle.am_inhibit.proofs.source.Sources.pop.Goals as goal

pub invariant_of-self : goal.invariant_of-self
invariant_of-self c =
    let old = c.self.inside.sources in
    let new = c.pop-last.new.self in
    let n = vec_len old - 1 in
    let rest = c.pop-last.ensures.rest in
    let old_long : vec_len old ≡ length old.items = search rules in
    let new_long : vec_len new ≡ length new.items = search rules in
    let left : length new.items ≡ n = ap length rest ∙ length-take-le n old.items (omega arith) in
    let counted : leading_targets new.items ≡ min (leading_targets old.items) n = ap leading_targets rest ∙ leading-taken n old.items in
    omega (arith, counted, left, new_long, c.self.invariant, c.min-self-inside.ensures, c.len.ensures)
