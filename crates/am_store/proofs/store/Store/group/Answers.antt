use Rattle.std.proofs.Common.{◌≡◌, ◌*◌, Some, IfOk, ap, subst, sym, ◌∙◌, drop, rules, take}
use Rattle.am_store.specs.declared.shared_alerts.TheConstants.{BLOCK, GROUP}
use Rattle.am_store.specs.AlertMaps.{stored_in}
use Rattle.am_store.specs.inside.Blocks.{IsCurrent, IsGroupCurrent, alerts_of_block}
use Rattle.am_store.proofs.Blocks.{current_group, chunks_joined, chunks_of_joined}
use Rattle.am_store.proofs.store.Store.group.Goals as goal

pub returns-in-Some-2 : goal.returns-in-Some-2
returns-in-Some-2 c =
    let at = c.args.at in
    let entries = c.self.inside.alerts.entries in
    let shared = c.in-Some.shared in
    let view : c.args.self.now ≡ entries = search rules in
    let there : c.self.inside.shared ≡ Some shared = search rules in
    let flags : IsGroupCurrent c.self.inside.current.items at = search rules in
    let is : c.in-Some-2.group ≡ take GROUP (drop (GROUP * at) shared) = search rules in
    let current = subst (λ list. IsCurrent c.self.inside.current.items list (stored_in entries)) there c.self.invariant.1 in
    is ∙ (current_group c.self.inside.current.items shared (stored_in entries) at current flags ∙ ap (λ all. take GROUP (drop (GROUP * at) (stored_in all))) (sym view))

pub of_blocks-requires : goal.of_blocks-requires
of_blocks-requires c = chunks_of_joined BLOCK alerts_of_block c.in_ok-blocks.field-0.items (take GROUP (drop (GROUP * c.args.at) (stored_in c.args.self.now))) c.in_ok-blocks.ensures

pub returns : goal.returns
returns c =
    let joined = chunks_joined BLOCK alerts_of_block c.in_ok-blocks.field-0.items (take GROUP (drop (GROUP * c.args.at) (stored_in c.args.self.now))) c.in_ok-blocks.ensures in
    subst (λ alerts. IfOk c.of_blocks.result (λ group. group ≡ alerts)) joined c.of_blocks.ensures
