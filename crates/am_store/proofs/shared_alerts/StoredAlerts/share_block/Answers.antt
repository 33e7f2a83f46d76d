use Rattle.std.proofs.Common.{◌≡◌, ◌<◌, ◌*◌, ◌/◌, ◌%◌, ap, sym, ◌∙◌, drop, get_or, length, rules, take}
use Rattle.std.specs.Arc.{arc_value}
use Rattle.am_store.specs.declared.shared_alerts.TheConstants.{BLOCK}
use Rattle.am_store.specs.inside.Blocks.{all_of}
use Rattle.am_store.proofs.Blocks.{block_of_groups, found_so}
use Rattle.am_store.proofs.shared_alerts.StoredAlerts.share_block.Goals as goal

pub returns-in-Some : goal.returns-in-Some
returns-in-Some c =
    let at = c.args.at in
    let groups = (arc_value c.self.inside.groups).items in
    let group = c.in-Some.group.now in
    let view : c.args.self.now ≡ all_of groups = search rules in
    let within : at / 32 < length groups = search rules in
    let got : group ≡ get_or groups (at / 32) group = search rules in
    let here : take BLOCK (drop (BLOCK * (at % 32)) group) ≡ take BLOCK (drop (BLOCK * at) c.args.self.now) =
    block_of_groups (all_of groups) groups at group c.self.invariant.0 within got ∙ ap (λ alerts. take BLOCK (drop (BLOCK * at) alerts)) (sym view) in
    found_so c.share_block.result (λ block is. is ∙ here) c.share_block.ensures
