use Rattle.std.proofs.Common.{◌≡◌, List, ◌++◌, take, sym, ap, ◌∙◌}
use Rattle.std.specs.List.{flat_map}
use Rattle.std.proofs.lemmas.List.{append_assoc}
use Rattle.am_alert.specs.declared.alert.Alert.{Alert}
use Rattle.am_inhibit.specs.Inhibitors.{InhibitorView}
use Rattle.am_answers.specs.Consuming.{answers_of_member}
use Rattle.am_answers.specs.declared.answer.Answer.{Answer}
use Rattle.am_answers.proofs.Notifying.{one_more}
use Rattle.am_answers.proofs.group_answers.add_members_at.Goals as goal

pub loop-alert-preserved : goal.loop-alert-preserved
loop-alert-preserved c =
    let so_far = c.loop-alert.invariant in
    let alerts = c.args.alerts.now in
    let at = c.loop-alert.alert-index in
    let one = c.alert-item.result in
    let made : Alert → List Answer = answers_of_member c.args.inhibitor.now c.args.now in
    let before = flat_map made (take at alerts) in
    let same : answers_of_member c.loop-alert.inhibitor c.args.now one ≡ made one = ap (λ (i : InhibitorView). answers_of_member i c.args.now one) so_far.same in
    record {
      answers = c.in_ok-add_member_at.ensures.added
          ∙ (ap (λ (front : List Answer). front ++ answers_of_member c.loop-alert.inhibitor c.args.now one) so_far.answers
          ∙ (ap (λ (last : List Answer). (c.args.answers.now.items ++ before) ++ last) same
          ∙ (append_assoc c.args.answers.now.items before (made one)
          ∙ ap (λ (rest : List Answer). c.args.answers.now.items ++ rest) (sym (one_more made alerts at one c.loop-alert-test.true c.alert-item.is)))));
      same = c.add_member_at.ensures.same ∙ so_far.same;
    }
