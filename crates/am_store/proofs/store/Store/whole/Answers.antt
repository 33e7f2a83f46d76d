use Rattle.std.proofs.Common.{◌≡◌, ◌*◌, ◌<◌, ◌≤◌, ℕ, Bool, Some, true, false, ap, refl, subst, sym, ◌∙◌, arith, get_or, length, rules}
use Rattle.std.proofs.lemmas.Grind.{common_steps}
use Rattle.std.proofs.lemmas.List.{length-map}
use Rattle.std.specs.Arc.{arc_value}
use mathlib.Core.Bool.{beq}
use Rattle.am_store.specs.declared.shared_alerts.TheConstants.{BLOCK}
use Rattle.am_store.specs.AlertMaps.{stored_in}
use Rattle.am_store.specs.inside.Blocks.{IsCurrent}
use Rattle.am_store.proofs.Blocks.{all_current}
use Rattle.am_store.proofs.store.Store.whole.Goals as goal

not_false : (flag : Bool) → beq flag false ≡ false → flag ≡ true
not_false true is = refl
not_false false is = absurd (let no : true ≡ false = is in cc)

pub returns : goal.returns
returns c =
    let entries = c.self.inside.alerts.entries in
    let current = c.self.inside.current.items in
    let shared = c.in_ok-shared.shared.now in
    let view : c.args.self.now ≡ entries = search rules in
    let there : c.self.inside.shared ≡ Some shared = search rules in
    let stored : length (stored_in entries) ≡ length entries = length-map entries (λ entry. arc_value entry.1) in
    let long : length shared ≡ length (stored_in entries) = omega (arith, c.len.ensures.len, c.len-2.ensures.len, c.if-len.false, stored) in
    let covers : length shared ≤ BLOCK * length current = grind (arith, common_steps) in
    let items : c.deref.result.now ≡ current = c.deref.ensures.value in
    let all = subst (λ flags. (k : ℕ) → k < length flags → get_or flags k false ≡ true) items (λ k short. not_false (get_or c.deref.result.now k false) (c.if-contains.ensures.cases k false (omega arith) short)) in
    let was = subst (λ list. IsCurrent current list (stored_in entries)) there c.self.invariant.1 in
    all_current current shared (stored_in entries) was long covers all ∙ ap stored_in (sym view)
