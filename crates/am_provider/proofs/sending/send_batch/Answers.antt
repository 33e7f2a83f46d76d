use Rattle.std.proofs.Common.{◌∙◌, ◌++◌, List, ap, sym, subst}
use Rattle.std.proofs.lemmas.List.{append_assoc}
use mathlib.Core.List.{IsPrefix}
use Rattle.am_alert.specs.declared.alert.Alert.{Alert}
use Rattle.am_cast.specs.declared.views.Tail.{Tail}
use Rattle.am_store.specs.Shared.{alerts_in}
use Rattle.am_provider.specs.Batches.{Batch, LogView}
use Rattle.am_provider.specs.Sending.{IsSent}
use Rattle.am_provider.proofs.Rising.{all_below}
use Rattle.am_provider.proofs.sending.send_batch.Goals as goal

begins_twice : {A : Type 0} (xs ys zs : List A) → IsPrefix xs ys → IsPrefix ys zs → IsPrefix xs zs
begins_twice xs ys zs one two =
    (one.0 ++ two.0, sym (append_assoc xs one.0 two.0) ∙ (ap (λ (front : List _). front ++ two.0) one.1 ∙ two.1))

pub returns-in-Ok-clause-sent : goal.returns-in-Ok-clause-sent
returns-in-Ok-clause-sent g c =
    let sent = c.in-Ok.ensures.sent in
    let x = sent.batch in
    let from = c.segment_of.new.writer in
    let items = subst (λ (items : List Alert). IsSent c.args.policy from c.send.new.writer c.args.pass.now c.confirm.new.pass c.args.call.now items c.in-Ok.sent.place c.in-Ok.sent.cut) c.in_ok-segment.ensures.segment (record {
      next = sent.next;
      still_open = sent.still_open;
      batch = (x.0, x.1, x.2, x.3, c.confirm.ensures.own ∙ x.4);
      known = (c.confirm.ensures.noted.1, begins_twice c.args.pass.now.noted c.send.new.pass.noted c.confirm.new.pass.noted sent.known.1 c.confirm.ensures.noted.0);
      lanes = sent.lanes;
      cuts = sent.cuts;
      kept = sent.kept;
    }) in
    let confirmed = subst (λ (log : LogView). IsSent c.args.policy from log c.args.pass.now c.confirm.new.pass c.args.call.now (alerts_in c.args.batch.items) c.in-Ok.sent.place c.in-Ok.sent.cut) (sym c.confirm.ensures.same) items in
    subst (λ (log : LogView). IsSent c.args.policy log c.confirm.new.self c.args.pass.now c.confirm.new.pass c.args.call.now (alerts_in c.args.batch.items) c.in-Ok.sent.place c.in-Ok.sent.cut) c.in_ok-segment.ensures.same confirmed

pub returns-in-Ok-clause-above : goal.returns-in-Ok-clause-above
returns-in-Ok-clause-above g c =
    let sent = c.in-Ok.ensures.sent in
    let x = sent.batch in
    let longer = ap (λ (log : LogView). log.tail.log) c.confirm.ensures.same ∙ ap (λ (tail : Tail Batch). tail.log) x.3 in
    all_below c.args.pass.now.own c.confirm.new.pass.own c.segment_of.new.writer.tail.log c.confirm.new.self.tail.log x.0 c.in-Ok.sent.place
    (c.confirm.ensures.own ∙ x.4) longer sent.next c.confirm.ensures.stand c.confirm.ensures.once
