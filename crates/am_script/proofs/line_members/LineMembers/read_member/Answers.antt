use Rattle.std.proofs.Common.{◌∙◌, sym}
use Rattle.am_script.proofs.LineMembers.{adds_alerts, adds_at, adds_body, adds_name, adds_thread, adds_verb}
use Rattle.am_script.proofs.line_members.LineMembers.read_member.Goals as goal

pub returns-in-do-clause-read : goal.returns-in-do-clause-read
returns-in-do-clause-read c taken =
    adds_verb 126 c.args.name.now c.args.reader.now c.next_verb-self.new.reader c.args.self.now c.next_verb-self.result c.in-do.is c.next_verb-self.ensures.read (sym c.is_some.ensures ∙ taken)

pub returns-in-thread-clause-read : goal.returns-in-thread-clause-read
returns-in-thread-clause-read c taken =
    adds_thread 126 c.args.name.now c.args.reader.now c.next_thread-self.new.reader c.args.self.now c.next_thread-self.result c.in-thread.is c.next_thread-self.ensures.read
    (sym c.is_some-in-thread.ensures ∙ taken)

pub returns-in_ok-self-in-at-clause-read : goal.returns-in_ok-self-in-at-clause-read
returns-in_ok-self-in-at-clause-read c taken =
    adds_at 126 c.args.name.now c.args.reader.now c.next_moment.new.reader c.args.self.now c.in_ok-self-in-at.field-0 c.in-at.is c.in_ok-self-in-at.ensures.read
    (sym c.is_some-in-at.ensures ∙ taken)

pub returns-in_ok-self-in-sub-clause-read : goal.returns-in_ok-self-in-sub-clause-read
returns-in_ok-self-in-sub-clause-read c taken =
    adds_name 126 c.args.name.now c.args.reader.now c.next_name.new.reader c.args.self.now c.in_ok-self-in-sub.field-0 c.in-sub.is c.in_ok-self-in-sub.ensures.read
    (sym c.is_some-in-sub.ensures ∙ taken)

pub returns-in_ok-self-in-body-clause-read : goal.returns-in_ok-self-in-body-clause-read
returns-in_ok-self-in-body-clause-read c taken =
    adds_body 126 c.args.name.now c.args.reader.now c.read_next.new.reader c.args.self.now c.in_ok-self-in-body.field-0 c.in-body.is c.in_ok-self-in-body.ensures.read
    (sym c.is_some-in-body.ensures ∙ taken)

pub returns-in_ok-self-in-alerts-clause-read : goal.returns-in_ok-self-in-alerts-clause-read
returns-in_ok-self-in-alerts-clause-read c taken =
    adds_alerts 126 c.args.name.now c.args.reader.now c.next_alerts.new.reader c.args.self.now c.in_ok-self-in-alerts.field-0 c.in-alerts.is c.in_ok-self-in-alerts.ensures.read
    (sym c.is_some-in-alerts.ensures ∙ taken)
