use Rattle.std.proofs.Common.{◌≡◌, ℕ, List, ap, subst, ◌∙◌, string_bytes}
use Rattle.am_command_line.specs.FirstLines.{IsFirstLine}
use Rattle.am_command_line.specs.Refusals.{first_line_too_large, refused_config, refused_script}
use Rattle.am_replay.specs.Replays.{no_config, too_long}
use Rattle.am_command_line.specs.declared.first_line.FirstLine.{FirstLine}
use Rattle.am_command_line.specs.declared.first_line.FirstLine.TheVariants as first_line
use Rattle.am_replay.proofs.Replays.{refused_so}
use Rattle.am_replay.proofs.program.printout_of.Goals as goal

-- what the first line of a text comes to
first_line_of : (text slice : List ℕ) (read is : FirstLine) → slice ≡ text → read ≡ is → IsFirstLine slice read → IsFirstLine text is
first_line_of text slice read is same known first =
    subst (λ (l : FirstLine). IsFirstLine text l) known (subst (λ (t : List ℕ). IsFirstLine t read) same first)

pub returns-in_ok-output-in-TooLong : goal.returns-in_ok-output-in-TooLong
returns-in_ok-output-in-TooLong g c =
    let text = c.args.text.items in
    let first = first_line_of text c.deref.result.now c.in_ok-read.field-0 first_line.TooLong c.deref.ensures.value c.in-TooLong.is c.in_ok-read.ensures in
    refused_so text (refused_script c.args.arguments.form first_line_too_large) _ _ (too_long first) c.refused.ensures.status
    (ap string_bytes c.refused.ensures.output ∙ c.in_ok-output-in-TooLong.ensures)

pub returns-in_ok-output-in-Refused : goal.returns-in_ok-output-in-Refused
returns-in_ok-output-in-Refused g c =
    let text = c.args.text.items in
    let fault = c.in-Refused.fault in
    let first = first_line_of text c.deref.result.now c.in_ok-read.field-0 (first_line.Refused fault) c.deref.ensures.value c.in-Refused.is c.in_ok-read.ensures in
    refused_so text (refused_config c.args.arguments.form fault) _ _ (no_config fault first) c.refused-in-Refused.ensures.status
    (ap string_bytes c.refused-in-Refused.ensures.output ∙ c.in_ok-output-in-Refused.ensures)
