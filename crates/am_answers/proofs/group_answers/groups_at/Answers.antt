use Rattle.std.proofs.Common.{◌≡◌, List, ◌++◌, take, sym, ap, ◌∙◌}
use Rattle.std.specs.List.{flat_map}
use Rattle.am_inhibit.specs.Inhibitors.{InhibitorView}
use Rattle.am_routes.specs.Groups.{GroupView}
use Rattle.am_answers.specs.Consuming.{answers_of_group_at}
use Rattle.am_answers.specs.declared.answer.Answer.{Answer}
use Rattle.am_answers.proofs.Notifying.{one_more}
use Rattle.am_answers.proofs.group_answers.groups_at.Goals as goal

pub loop-group-preserved : goal.loop-group-preserved
loop-group-preserved c =
    let so_far = c.loop-group.invariant in
    let groups = c.args.groups.now in
    let at = c.loop-group.group-index in
    let one = c.group-item.result in
    let made : GroupView → List Answer = answers_of_group_at c.args.inhibitor.now c.args.now in
    let before = flat_map made (take at groups) in
    let same : answers_of_group_at c.loop-group.inhibitor c.args.now one ≡ made one = ap (λ (i : InhibitorView). answers_of_group_at i c.args.now one) so_far.same in
    record {
      answers = c.in_ok-add_group_at.ensures.added
          ∙ (ap (λ (front : List Answer). front ++ answers_of_group_at c.loop-group.inhibitor c.args.now one) so_far.answers
          ∙ (ap (λ (last : List Answer). before ++ last) same
          ∙ sym (one_more made groups at one c.loop-group-test.true c.group-item.is)));
      same = c.add_group_at.ensures.same ∙ so_far.same;
    }
