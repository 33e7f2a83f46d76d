use Rattle.std.proofs.Common.{◌≡◌, ◌≢◌, ◌≤◌, ◌/◌, [], ◌∷◌, true, false, ap, sym, subst, get_or, length, rules, set}
use Rattle.am_store.specs.declared.shared_alerts.TheConstants.{BLOCK}
use Rattle.am_store.specs.declared.store.absorb.Change.{Change}
use Rattle.am_store.specs.inside.Changed.{IsUntouched}
use Rattle.am_store.proofs.Blocks.{flag_cleared, flag_past, untouched_next}
use Rattle.am_store.proofs.store.absorb.note_replaced.Goals as goal
use Rattle.am_store.proofs.store.absorb.note_replaced.Goals.{in-Replaced+in-Some, in-Replaced+in_default-get_mut, in_default}

pub loop-change-preserved : goal.loop-change-preserved
loop-change-preserved c = elim c.match-change.branch [
  | in-Replaced+in-Some w ↦ λ at flag.
      let replaced = w.in-Replaced.at in
      let cleared : get_or (set c.loop-change.current.items (replaced / BLOCK) false) (at / BLOCK) false ≡ true = subst (λ vec. get_or vec.items (at / BLOCK) false ≡ true) w.current-is flag in
      let old = flag_cleared c.loop-change.current.items (replaced / BLOCK) (at / BLOCK) cleared in
      let so = c.loop-change.invariant at old.0 in
      let other : replaced ≢ at = λ same. old.1 (ap (λ n. n / BLOCK) same) in
      let last : IsUntouched at (c.change-item.result ∷ []) = subst (λ (change : Change). IsUntouched at (change ∷ [])) (sym w.in-Replaced.is) (other, tt) in
      (so.0, untouched_next at c.args.changes.now c.loop-change.change-index c.change-item.result c.loop-change-test.true c.change-item.is so.1 last)
  | in-Replaced+in_default-get_mut w ↦ λ at flag.
      let replaced = w.in-Replaced.at in
      let old : get_or c.loop-change.current.items (at / BLOCK) false ≡ true = subst (λ vec. get_or vec.items (at / BLOCK) false ≡ true) w.current-is flag in
      let past : length c.loop-change.current.items ≤ replaced / BLOCK = search rules in
      let so = c.loop-change.invariant at old in
      let other : replaced ≢ at = λ same. flag_past c.loop-change.current.items (replaced / BLOCK) (at / BLOCK) past old (ap (λ n. n / BLOCK) same) in
      let last : IsUntouched at (c.change-item.result ∷ []) = subst (λ (change : Change). IsUntouched at (change ∷ [])) (sym w.in-Replaced.is) (other, tt) in
      (so.0, untouched_next at c.args.changes.now c.loop-change.change-index c.change-item.result c.loop-change-test.true c.change-item.is so.1 last)
  | in_default w ↦ λ at flag.
      let old : get_or c.loop-change.current.items (at / BLOCK) false ≡ true = subst (λ vec. get_or vec.items (at / BLOCK) false ≡ true) w.current-is flag in
      let so = c.loop-change.invariant at old in
      let last : IsUntouched at (c.change-item.result ∷ []) = subst (λ (change : Change). IsUntouched at (change ∷ [])) (sym w.in_default.is) tt in
      (so.0, untouched_next at c.args.changes.now c.loop-change.change-index c.change-item.result c.loop-change-test.true c.change-item.is so.1 last)
]
