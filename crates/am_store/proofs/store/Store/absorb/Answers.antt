use Rattle.std.proofs.Common.{◌≡◌, ◌+◌, ◌<◌, ◌/◌, ◌++◌, ℕ, true, false, subst, length, take, drop, set, get_or, ap, sym, ◌∙◌, length-drop, rules, arith}
use Rattle.std.proofs.lemmas.List.{map-set, take_more_set, length-map, length-set, get_or-map}
use Rattle.std.specs.Arc.{arc_value}
use Rattle.am_alert.specs.Merging.{absorbed}
use Rattle.am_store.specs.AlertList.{lookup, with_alert, with_alerts, batch_by_list}
use Rattle.am_store.specs.AlertMaps.{stored_in, taken_back, all_taken_back}
use Rattle.am_store.specs.Shared.{alerts_in}
use Rattle.am_store.specs.declared.shared_alerts.TheConstants.{BLOCK}
use Rattle.am_store.specs.inside.Blocks.{IsCurrent}
use Rattle.am_store.specs.inside.Changed.{IsUntouched}
use Rattle.am_store.proofs.Blocks.{still_current}
use Rattle.am_store.proofs.Absorbing.{with_alerts_last, batch_more}
use Rattle.am_store.proofs.Entries.{all_back_last}
use Rattle.am_store.proofs.store.Store.absorb.Goals as goal

pub loop-block-preserved : goal.loop-block-preserved
loop-block-preserved c =
    let so_far = c.loop-block.invariant in
    let blocks = c.loop-block.block-items in
    let at = c.loop-block.block-index in
    let reports = alerts_in blocks in
    let new = arc_value c.block-item.result in
    let block = c.absorb_one.new.block in
    let became = arc_value block in
    let before = stored_in c.args.self.now in
    let olds = stored_in c.loop-block.self-inside.alerts.entries in
    let entries = c.absorb_one.new.alerts.entries in
    let below : at < length blocks = search rules in
    let small : at < length reports = omega (arith, below, length-map blocks arc_value) in
    let here : new ≡ get_or reports at new = ap arc_value c.block-item.is ∙ sym (get_or-map arc_value blocks at c.block-item.result new below) in
    let is : became ≡ absorbed c.args.now (lookup new.labels olds) new = search rules in
    let now : alerts_in (set blocks at block) ≡ set reports at became = map-set arc_value blocks at block in
    let stored : stored_in entries ≡ with_alert became olds = search rules in
    let change : taken_back c.in-Ok.change entries ≡ c.loop-block.self-inside.alerts.entries = search rules in
    record {
      batch = ap (λ all. take (at + 1) all ++ batch_by_list c.args.now (drop (at + 1) all) (stored_in entries)) now
          ∙ (ap (λ held. take (at + 1) (set reports at became) ++ batch_by_list c.args.now (drop (at + 1) (set reports at became)) held) stored
          ∙ (batch_more c.args.now reports at new became olds small here is ∙ so_far.batch));
      stored = stored ∙ (ap (with_alert became) so_far.stored ∙ (sym (with_alerts_last (take at reports) became before) ∙ ap (λ front. with_alerts front before) (sym (ap (take (at + 1)) now ∙ take_more_set reports at became small))));
      kept = c.in-Ok.ensures.kept;
      before = ap (λ changes. all_taken_back changes entries) c.push_reserved.ensures.items
          ∙ (all_back_last c.loop-block.changes.items c.in-Ok.change entries ∙ (ap (all_taken_back c.loop-block.changes.items) change ∙ so_far.before));
      current = so_far.current;
      shared = so_far.shared;
      changes = omega (arith, so_far.changes, below, length-drop at blocks, length-drop (at + 1) (set blocks at block), length-set blocks at block, c.push_reserved.ensures.len, c.push_reserved.ensures.capacity);
    }

pub invariant_of-self-2 : goal.invariant_of-self-2
invariant_of-self-2 c =
    let so_far = c.loop-block.invariant in
    let entries = c.loop-block.self-inside.alerts.entries in
    let olds = c.self.inside.alerts.entries in
    let view : c.args.self.now ≡ olds = search rules in
    let before : c.len-before.result ≡ length olds = search rules in
    let after : c.len.result ≡ length entries = search rules in
    let flagged : (at : ℕ) → get_or c.note_changes.new.current.items (at / BLOCK) false ≡ true → (get_or c.self.inside.current.items (at / BLOCK) false ≡ true) × (length olds < length entries → at < length olds) × IsUntouched at c.loop-block.changes.items =
    λ at flag.
    let so = c.note_changes.ensures at flag in
    (subst (λ vec. get_or vec.items (at / BLOCK) false ≡ true) so_far.current so.0, λ more. omega (arith, so.1 (omega (arith, more, before, after)), before), search (rules, so.2)) in
    (so_far.kept, subst (λ list. IsCurrent c.note_changes.new.current.items list (stored_in entries)) (sym so_far.shared) (still_current c.self.inside.current.items c.note_changes.new.current.items c.self.inside.shared c.loop-block.changes.items olds entries c.self.invariant.1 (so_far.before ∙ view) flagged))
