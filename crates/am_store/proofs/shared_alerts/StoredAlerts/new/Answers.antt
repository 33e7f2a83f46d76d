use Rattle.std.proofs.Common.{◌≡◌, IfOk, ◌*◌, ◌<◌, ◌∷◌, ◌++◌, [], List, ap, sym, subst, ◌∙◌, arith, drop, get_or, length, min, rules, take}
use Rattle.std.proofs.lemmas.Grind.{common_steps}
use Rattle.std.proofs.lemmas.List.{length-map}
use Rattle.std.specs.Arc.{arc_value}
use Rattle.am_alert.specs.declared.alert.Alert.{Alert}
use Rattle.am_store.specs.declared.shared_alerts.TheConstants.{GROUP}
use Rattle.am_store.specs.Shared.{alerts_in}
use Rattle.am_store.specs.inside.Blocks.{AreGroupsOf}
use Rattle.am_store.proofs.Blocks.{chunks_joined, chunks_of_joined, one_chunk_more, cut_is_chunk}
use Rattle.am_store.proofs.shared_alerts.StoredAlerts.new.Goals as goal

pub loop-at-preserved : goal.loop-at-preserved
loop-at-preserved c =
    let items = c.args.alerts.items in
    let at = c.loop-at.at in
    let groups = c.loop-at.groups.items in
    let group = c.in_ok-new.field-0 in
    let many : length groups ≡ at = search rules in
    let since : c.split_at.result.1.now ≡ drop (at * GROUP) items = search rules in
    let part : c.split_at-in-loop-at.result.0.now ≡ take (min GROUP (length c.split_at.result.1.now)) c.split_at.result.1.now = search rules in
    let is : group ≡ alerts_in c.split_at-in-loop-at.result.0.now = search rules in
    let here : group ≡ take GROUP (drop (GROUP * length groups) (alerts_in items)) =
    is ∙ (cut_is_chunk GROUP items c.split_at.result.1.now c.split_at-in-loop-at.result.0.now at since part ∙ ap (λ n. take GROUP (drop (GROUP * n) (alerts_in items))) (sym many)) in
    let pushed : c.push_reserved.new.self.items ≡ groups ++ group ∷ [] = search rules in
    record {
      each = λ k d short. subst (λ all. k < length all → get_or all k d ≡ take GROUP (drop (GROUP * k) (alerts_in items))) (sym pushed) (one_chunk_more GROUP (λ (group : List Alert). group) (alerts_in items) groups group c.loop-at.invariant.each here k d) short;
      len = search rules;
      room = search rules;
    }

all_groups : (c : goal.After-len-2) → AreGroupsOf (alerts_in c.args.alerts.items) c.loop-at.groups.items
all_groups c = record {
  each = c.loop-at.invariant.each;
  beyond = grind (arith, common_steps, length-map c.args.alerts.items arc_value);
}

pub of_groups-requires-clause-groups : goal.of_groups-requires-clause-groups
of_groups-requires-clause-groups c = chunks_of_joined GROUP (λ (group : List Alert). group) c.loop-at.groups.items (alerts_in c.args.alerts.items) (all_groups c)

pub of_groups-requires-clause-len : goal.of_groups-requires-clause-len
of_groups-requires-clause-len c =
    let joined = ap length (chunks_joined GROUP (λ (group : List Alert). group) c.loop-at.groups.items (alerts_in c.args.alerts.items) (all_groups c)) in
    grind (arith, common_steps, joined, length-map c.args.alerts.items arc_value)

pub returns : goal.returns
returns c =
    let joined = chunks_joined GROUP (λ (group : List Alert). group) c.loop-at.groups.items (alerts_in c.args.alerts.items) (record { each = c.loop-at.invariant.each; beyond = grind (arith, common_steps, length-map c.args.alerts.items arc_value) }) in
    subst (λ alerts. IfOk c.of_groups.result (λ stored. stored ≡ alerts)) joined c.of_groups.ensures
