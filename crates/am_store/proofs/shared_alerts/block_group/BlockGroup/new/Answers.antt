use Rattle.std.proofs.Common.{◌≡◌, IfOk, ◌*◌, ◌<◌, ◌∷◌, ◌++◌, [], ap, sym, subst, ◌∙◌, arith, drop, get_or, length, min, rules, take}
use Rattle.std.proofs.lemmas.Grind.{common_steps}
use Rattle.std.proofs.lemmas.List.{length-map}
use Rattle.std.specs.Arc.{arc_value}
use Rattle.am_store.specs.declared.shared_alerts.TheConstants.{BLOCK}
use Rattle.am_store.specs.Shared.{alerts_in}
use Rattle.am_store.specs.inside.Blocks.{AreBlocksOf, alerts_of_block}
use Rattle.am_store.proofs.Blocks.{chunks_joined, chunks_of_joined, one_chunk_more, cut_is_chunk}
use Rattle.am_store.proofs.shared_alerts.block_group.BlockGroup.new.Goals as goal

pub loop-at-preserved : goal.loop-at-preserved
loop-at-preserved c =
    let items = c.args.alerts.now in
    let at = c.loop-at.at in
    let blocks = c.loop-at.blocks.items in
    let block = c.in_ok-block_of.field-0 in
    let many : length blocks ≡ at = search rules in
    let since : c.split_at.result.1.now ≡ drop (at * BLOCK) items = search rules in
    let part : c.split_at-in-loop-at.result.0.now ≡ take (min BLOCK (length c.split_at.result.1.now)) c.split_at.result.1.now = search rules in
    let is : alerts_of_block block ≡ alerts_in c.split_at-in-loop-at.result.0.now = search rules in
    let here : alerts_of_block block ≡ take BLOCK (drop (BLOCK * length blocks) (alerts_in items)) =
    is ∙ (cut_is_chunk BLOCK items c.split_at.result.1.now c.split_at-in-loop-at.result.0.now at since part ∙ ap (λ n. take BLOCK (drop (BLOCK * n) (alerts_in items))) (sym many)) in
    let pushed : c.push_reserved.new.self.items ≡ blocks ++ block ∷ [] = search rules in
    record {
      each = λ k d short. subst (λ all. k < length all → alerts_of_block (get_or all k d) ≡ take BLOCK (drop (BLOCK * k) (alerts_in items))) (sym pushed) (one_chunk_more BLOCK alerts_of_block (alerts_in items) blocks block c.loop-at.invariant.each here k d) short;
      len = search rules;
      room = search rules;
    }

all_blocks : (c : goal.After-loop-at) → AreBlocksOf (alerts_in c.args.alerts.now) c.loop-at.blocks.items
all_blocks c = record {
  each = c.loop-at.invariant.each;
  beyond = grind (arith, common_steps, length-map c.args.alerts.now arc_value);
}

pub of_blocks-requires : goal.of_blocks-requires
of_blocks-requires c = chunks_of_joined BLOCK alerts_of_block c.loop-at.blocks.items (alerts_in c.args.alerts.now) (all_blocks c)

pub returns : goal.returns
returns c =
    let joined = chunks_joined BLOCK alerts_of_block c.loop-at.blocks.items (alerts_in c.args.alerts.now) (record { each = c.loop-at.invariant.each; beyond = grind (arith, common_steps, length-map c.args.alerts.now arc_value) }) in
    subst (λ alerts. IfOk c.of_blocks.result (λ group. group ≡ alerts)) joined c.of_blocks.ensures
