use Rattle.std.proofs.Common.{rules}
use Rattle.std.proofs.lemmas.Result.{IfErr-weaker, IfOk-weaker}
use Rattle.am_command_line.specs.Options.{AreModes, ArePolicies}
use Rattle.am_command_line.proofs.GivenArguments.{fit_given, is_free_command, is_simple_command, given_read, given_refused, misfit_given}
use Rattle.am_command_line.proofs.arguments.Arguments.read.Goals as goal

pub returns-in-Ok-clause-read : goal.returns-in-Ok-clause-read
returns-in-Ok-clause-read c =
    let modes : AreModes c.as_slice.result = search rules in
    let policies : ArePolicies c.as_slice-2.result = search rules in
    let command = c.in_ok-command.command in
    let is_command = c.in_ok-command.ensures in
    let accepted = given_read _ _ modes policies command is_command _ c.in-Ok.matches c.found.result
    (c.in-Ok.ensures.matches (is_simple_command _ _ modes policies command is_command)).0
    (c.in-Ok.ensures.kinds (is_free_command _ _ modes policies command is_command)) c.found.ensures in
    IfOk-weaker c.within_mode.result _ _ (λ same fit. fit_given _ c.found.result same accepted fit) c.within_mode.ensures.fit

pub returns-in-Ok-clause-refused : goal.returns-in-Ok-clause-refused
returns-in-Ok-clause-refused c =
    let modes : AreModes c.as_slice.result = search rules in
    let policies : ArePolicies c.as_slice-2.result = search rules in
    let command = c.in_ok-command.command in
    let is_command = c.in_ok-command.ensures in
    let accepted = given_read _ _ modes policies command is_command _ c.in-Ok.matches c.found.result
    (c.in-Ok.ensures.matches (is_simple_command _ _ modes policies command is_command)).0
    (c.in-Ok.ensures.kinds (is_free_command _ _ modes policies command is_command)) c.found.ensures in
    IfErr-weaker c.within_mode.result _ _ (λ fault misfit. misfit_given _ c.found.result fault accepted misfit) c.within_mode.ensures.misfit

pub returns-in-Err-clause-refused : goal.returns-in-Err-clause-refused
returns-in-Err-clause-refused c =
    let modes : AreModes c.as_slice.result = search rules in
    let policies : ArePolicies c.as_slice-2.result = search rules in
    let command = c.in_ok-command.command in
    let is_command = c.in_ok-command.ensures in
    given_refused _ _ modes policies command is_command _ c.in-Err.error c.told.result
    (c.in-Err.ensures.kinds (is_free_command _ _ modes policies command is_command)) c.told.ensures
