use Rattle.std.proofs.Common.{◌≡◌, ◌*◌, ◌<◌, ◌∷◌, ◌++◌, [], List, ap, sym, subst, ◌∙◌, drop, get_or, length, rules, take}
use Rattle.am_alert.specs.declared.alert.Alert.{Alert}
use Rattle.am_store.specs.declared.shared_alerts.TheConstants.{GROUP}
use Rattle.am_store.specs.AlertMaps.{stored_in}
use Rattle.am_store.proofs.Blocks.{one_chunk_more}
use Rattle.am_store.proofs.store.Store.groups.Goals as goal

pub loop-at-preserved : goal.loop-at-preserved
loop-at-preserved c =
    let stored = stored_in c.args.self.now in
    let groups = c.loop-at.groups.items in
    let group = c.in_ok-group.field-0 in
    let many : length groups ≡ c.loop-at.at = search rules in
    let is : group ≡ take GROUP (drop (GROUP * c.loop-at.at) stored) = search rules in
    let here : group ≡ take GROUP (drop (GROUP * length groups) stored) = is ∙ ap (λ n. take GROUP (drop (GROUP * n) stored)) (sym many) in
    let pushed : c.push_reserved.new.self.items ≡ groups ++ group ∷ [] = search rules in
    record {
      each = λ k d short. subst (λ all. k < length all → get_or all k d ≡ take GROUP (drop (GROUP * k) stored)) (sym pushed) (one_chunk_more GROUP (λ (group : List Alert). group) stored groups group c.loop-at.invariant.each here k d) short;
      len = search rules;
      room = search rules;
    }
