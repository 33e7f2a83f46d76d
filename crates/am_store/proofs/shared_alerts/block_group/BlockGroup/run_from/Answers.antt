use Rattle.std.proofs.Common.{◌≡◌, ◌<◌, ◌≤◌, ◌/◌, ◌%◌, ◌-◌, ap, sym, ◌∙◌, drop, get_or, length, min, rules, take, arith}
use Rattle.std.specs.Arc.{arc_value}
use Rattle.am_store.specs.declared.shared_alerts.TheConstants.{BLOCK}
use Rattle.am_store.specs.inside.Blocks.{alerts_of, alerts_of_block}
use Rattle.am_store.proofs.Blocks.{run_got, run_missing}
use Rattle.am_store.proofs.shared_alerts.block_group.BlockGroup.run_from.Goals as goal

pub returns-in-Some : goal.returns-in-Some
returns-in-Some c =
    let from = c.args.from in
    let items = (arc_value c.in-Some.block.now).items in
    let view : c.args.self.now ≡ alerts_of (arc_value c.self.inside.blocks).items = search rules in
    let within : from / BLOCK < length (arc_value c.self.inside.blocks).items = search rules in
    let got : c.in-Some.block.now ≡ get_or (arc_value c.self.inside.blocks).items (from / BLOCK) c.in-Some.block.now = search rules in
    let rest : c.split_at.result.1.now ≡ drop (min (from % BLOCK) (length items)) items = search rules in
    run_got _ _ from c.in-Some.block.now c.split_at.result.1.now c.self.invariant within got rest ∙ ap (λ alerts. take (BLOCK - from % BLOCK) (drop from alerts)) (sym view)

pub returns-in-None : goal.returns-in-None
returns-in-None c =
    let from = c.args.from in
    let view : c.args.self.now ≡ alerts_of (arc_value c.self.inside.blocks).items = search rules in
    let past : length (arc_value c.self.inside.blocks).items ≤ from / BLOCK = search rules in
    run_missing BLOCK alerts_of_block (alerts_of (arc_value c.self.inside.blocks).items) (arc_value c.self.inside.blocks).items from (BLOCK - from % BLOCK) c.self.invariant (omega (arith, past)) ∙ ap (λ alerts. take (BLOCK - from % BLOCK) (drop from alerts)) (sym view)
