use Rattle.std.proofs.Common.{◌≡◌, ◌*◌, Some, true, false, ap, subst, sym, ◌∙◌, drop, get_or, rules, take}
use Rattle.std.specs.Arc.{arc_value}
use Rattle.am_store.specs.declared.shared_alerts.TheConstants.{BLOCK}
use Rattle.am_store.specs.AlertMaps.{stored_in}
use Rattle.am_store.specs.Shared.{alerts_in}
use Rattle.am_store.specs.inside.Blocks.{IsCurrent}
use Rattle.am_store.proofs.Blocks.{current_block}
use Rattle.am_store.proofs.store.Store.block.Goals as goal

pub returns-in-Some : goal.returns-in-Some
returns-in-Some c =
    let entries = c.self.inside.alerts.entries in
    let shared = c.in-Some-Some-true.shared in
    let view : c.args.self.now ≡ entries = search rules in
    let there : c.self.inside.shared ≡ Some shared = search rules in
    let flag : get_or c.self.inside.current.items c.args.at false ≡ true = search rules in
    let is : alerts_in (arc_value c.in-Some.block).items ≡ take BLOCK (drop (BLOCK * c.args.at) shared) = search rules in
    let current = subst (λ list. IsCurrent c.self.inside.current.items list (stored_in entries)) there c.self.invariant.1 in
    is ∙ (current_block c.self.inside.current.items shared (stored_in entries) c.args.at current flag ∙ ap (λ all. take BLOCK (drop (BLOCK * c.args.at) (stored_in all))) (sym view))
