use Rattle.std.proofs.Common.{◌≡◌, ◌+◌, ◌*◌, ◌<◌, ◌≤◌, ◌-◌, ◌∷◌, ◌++◌, [], ap, sym, subst, ◌∙◌, drop, get_or, length, length-take, length-drop, min, arith, rules, take}
use Rattle.std.proofs.lemmas.Grind.{common_steps}
use Rattle.std.proofs.lemmas.List.{length-map}
use Rattle.std.specs.Arc.{arc_value}
use Rattle.am_store.specs.declared.shared_alerts.TheConstants.{BLOCK, GROUP}
use Rattle.am_store.specs.AlertMaps.{stored_in}
use Rattle.am_store.specs.inside.Blocks.{alerts_of_block}
use Rattle.am_store.proofs.Blocks.{block_in_group, one_chunk_more}
use Rattle.am_store.proofs.store.Store.blocks.Goals as goal

pub loop-at-preserved : goal.loop-at-preserved
loop-at-preserved c =
    let stored = stored_in c.args.self.now in
    let part = take GROUP (drop (GROUP * c.args.group) stored) in
    let blocks = c.loop-at.blocks.items in
    let block = c.in_ok-block.field-0 in
    let many : length blocks ≡ c.loop-at.at = search rules in
    let is : alerts_of_block block ≡ take BLOCK (drop (BLOCK * (32 * c.args.group + c.loop-at.at)) stored) = search rules in
    let within : c.loop-at.at < 32 = search rules in
    let here : alerts_of_block block ≡ take BLOCK (drop (BLOCK * length blocks) part) =
    is ∙ (sym (block_in_group stored c.args.group c.loop-at.at within) ∙ ap (λ n. take BLOCK (drop (BLOCK * n) part)) (sym many)) in
    let pushed : c.push_reserved.new.self.items ≡ blocks ++ block ∷ [] = search rules in
    record {
      each = λ k d short. subst (λ all. k < length all → alerts_of_block (get_or all k d) ≡ take BLOCK (drop (BLOCK * k) part)) (sym pushed) (one_chunk_more BLOCK alerts_of_block part blocks block c.loop-at.invariant.each here k d) short;
      len = search rules;
      room = search rules;
    }

pub returns : goal.returns
returns c =
    let entries = c.self.inside.alerts.entries in
    let view : c.args.self.now ≡ entries = search rules in
    let stored = stored_in c.args.self.now in
    let long : length stored ≡ c.len.result = ap (λ all. length (stored_in all)) view ∙ (length-map entries (λ entry. arc_value entry.1) ∙ sym c.len.ensures.len) in
    let ceil : c.len.result ≤ BLOCK * c.div_ceil.result = grind (arith, common_steps) in
    let many : length c.loop-at.blocks.items ≡ c.loop-at.at = search rules in
    let all : c.min-count.result ≤ c.loop-at.at = c.loop-at-test.false in
    let count : c.min-count.result ≡ min (c.div_ceil.result - 32 * c.args.group) 32 = search rules in
    record {
      each = c.loop-at.invariant.each;
      beyond = omega (arith, long, ceil, many, all, count, length-take GROUP (drop (GROUP * c.args.group) stored), length-drop (GROUP * c.args.group) stored);
    }
