use Rattle.std.proofs.Common.{◌≡◌, ◌/◌, true, false, subst, arith, get_or, rules, take}
use Rattle.am_store.specs.declared.shared_alerts.TheConstants.{BLOCK}
use Rattle.am_store.proofs.Blocks.{flag_cut}
use Rattle.am_store.proofs.store.absorb.note_changes.Goals as goal
use Rattle.am_store.proofs.store.absorb.note_changes.Goals.{then-before-after, else-before-after}

pub returns : goal.returns
returns c = elim c.if-before-after.branch [
  | then-before-after w ↦ λ at flag.
      let so = c.note_replaced.ensures at flag in
      let cut : c.if-before-after.current.items ≡ take (c.args.before / BLOCK) c.args.current.now.items = search rules in
      let old = flag_cut c.args.current.now.items (c.args.before / BLOCK) (at / BLOCK) (subst (λ flags. get_or flags (at / BLOCK) false ≡ true) cut so.0) in
      (old.0, λ more. omega (arith, old.1), so.1)
  | else-before-after w ↦ λ at flag.
      let so = c.note_replaced.ensures at flag in
      (subst (λ vec. get_or vec.items (at / BLOCK) false ≡ true) w.current-is so.0, λ more. absurd (omega (arith, more, w.if-before-after.false)), so.1)
]
