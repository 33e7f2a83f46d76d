use Rattle.std.proofs.Common.{ap, ◌∙◌, string_bytes}
use Rattle.am_command_line.specs.Refusals.{refused_script}
use Rattle.am_replay.specs.Replays.{refused}
use Rattle.am_replay.proofs.Replays.{comes, if_ok_both, refused_so}
use Rattle.am_replay.proofs.program.printout_under.Goals as goal

pub returns-in_ok-run_script-in-Ok : goal.returns-in_ok-run_script-in-Ok
returns-in_ok-run_script-in-Ok g c =
    let ran = c.in_ok-run_script-in-Ok.field-0 in
    if_ok_both c.ran.result c.ran.ensures.output c.ran.ensures.status
    (λ printout said ends. comes c.args.arguments c.args.text.items c.in-Ok.lines.items c.args.config.now ran.transcript ran.settled printout.status (string_bytes printout.output)
    c.requires c.in-Ok.ensures.read c.in_ok-run_script-in-Ok.ensures said ends)

pub returns-in_ok-output-in-Err-Refused-default : goal.returns-in_ok-output-in-Err-Refused-default
returns-in_ok-output-in-Err-Refused-default g c =
    let text = c.args.text.items in
    let checks = rw c.in-Err-Refused-default.field-0-0-is at c.in-Err-Refused-default.ensures.refused in
    let words = refused_script c.args.arguments.form c.in-Err-Refused-default.refusal in
    refused_so text words _ _ (refused c.args.config.now c.in-Err-Refused-default.refusal c.requires checks) c.refused.ensures.status
    (ap string_bytes c.refused.ensures.output ∙ (c.in_ok-output-in-Err-Refused-default.ensures ∙ ap (refused_script c.args.arguments.form) c.in-Err-Refused-default.refusal-is))
