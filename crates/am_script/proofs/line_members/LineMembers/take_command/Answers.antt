use Rattle.std.proofs.Common.{◌∙◌, Some, ap, sym}
use Rattle.am_script.proofs.LineMembers.{reads_close, reads_collect, reads_compact, reads_post, reads_put, reads_routes, reads_stored, reads_take, reads_trim}
use Rattle.am_script.proofs.line_members.LineMembers.take_command.Goals as goal

pub returns-in_ok-take-in-Post : goal.returns-in_ok-take-in-Post
returns-in_ok-take-in-Post c ms those =
    reads_post c.args.self.now ms those c.in_ok-self-in-Post.field-0 c.in_ok-take-in-Post.field-0 (c.in_ok-verb.was ∙ ap Some c.in-Post.is) c.in_ok-self-in-Post.was (sym c.take.ensures.value ∙ c.in_ok-take-in-Post.was)

pub returns-in_ok-take-in-Put : goal.returns-in_ok-take-in-Put
returns-in_ok-take-in-Put c ms those =
    reads_put c.args.self.now ms those c.in_ok-self-in-Put.field-0 c.in_ok-take-in-Put.field-0 (c.in_ok-verb.was ∙ ap Some c.in-Put.is) c.in_ok-self-in-Put.was (sym c.take-in-Put.ensures.value ∙ c.in_ok-take-in-Put.was)

pub returns-in_ok-self-in-Collect : goal.returns-in_ok-self-in-Collect
returns-in_ok-self-in-Collect c ms those = reads_collect c.args.self.now ms those c.in_ok-self-in-Collect.field-0 (c.in_ok-verb.was ∙ ap Some c.in-Collect.is) c.in_ok-self-in-Collect.was

pub returns-in_ok-self-in-Take : goal.returns-in_ok-self-in-Take
returns-in_ok-self-in-Take c ms those = reads_take c.args.self.now ms those c.in_ok-self-in-Take.field-0 (c.in_ok-verb.was ∙ ap Some c.in-Take.is) c.in_ok-self-in-Take.was

pub returns-in-Close : goal.returns-in-Close
returns-in-Close c ms those = reads_close c.args.self.now ms those (c.in_ok-verb.was ∙ ap Some c.in-Close.is)

pub returns-in-Trim : goal.returns-in-Trim
returns-in-Trim c ms those = reads_trim c.args.self.now ms those (c.in_ok-verb.was ∙ ap Some c.in-Trim.is)

pub returns-in-Compact : goal.returns-in-Compact
returns-in-Compact c ms those = reads_compact c.args.self.now ms those (c.in_ok-verb.was ∙ ap Some c.in-Compact.is)

pub returns-in-Stored : goal.returns-in-Stored
returns-in-Stored c ms those = reads_stored c.args.self.now ms those (c.in_ok-verb.was ∙ ap Some c.in-Stored.is)

pub returns-in-Routes : goal.returns-in-Routes
returns-in-Routes c ms those = reads_routes c.args.self.now ms those (c.in_ok-verb.was ∙ ap Some c.in-Routes.is)
