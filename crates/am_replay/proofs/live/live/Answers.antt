use Rattle.std.proofs.Common.{refl, subst}
use Rattle.am_command_line.specs.FirstLines.{IsFirstLine}
use Rattle.am_replay.specs.Live.{IsLive, line_or_empty, no_memory, ran}
use Rattle.am_command_line.specs.Refusals.{first_line_too_large, refused_config, refused_script}
use Rattle.am_command_line.specs.declared.first_line.FirstLine.TheVariants as first_line
use Rattle.am_replay.proofs.Lives.{read_as_first, refusal_told}
use Rattle.am_replay.proofs.Replays.{keeps_same}
use Rattle.am_replay.proofs.live.live.Goals as goal

pub returns-in-Err : goal.returns-in-Err
returns-in-Err g c = IsLive.not_begun c.status_of.ensures (keeps_same (g.O.Write.contents c.args.out.now))

pub returns-in-Ok-Read : goal.returns-in-Ok-Read
returns-in-Ok-Read g c =
    let next = read_as_first (g.I.Read.remaining c.args.input.now) (g.I.Read.remaining c.next_line.new.input) c.in-Ok.line c.in-Ok.ensures in
    ran next.0 (g.I.Read.remaining c.next_line.new.input) c.in-Ok-Read.config next.2
    (subst (IsFirstLine (line_or_empty next.0)) c.in-Ok-Read.field-0-is (c.in-Ok-Read.ensures next.0 next.1))
    c.live_under.ensures

pub returns-in-Ok-Refused : goal.returns-in-Ok-Refused
returns-in-Ok-Refused g c =
    let next = read_as_first (g.I.Read.remaining c.args.input.now) (g.I.Read.remaining c.next_line.new.input) c.in-Ok.line c.in-Ok.ensures in
    refusal_told c.args.arguments (g.I.Read.remaining c.args.input.now) (g.O.Write.contents c.args.out.now) (g.O.Write.contents c.refuse-status.new.out) next.0 (g.I.Read.remaining c.next_line.new.input)
    (first_line.Refused c.in-Ok-Refused.fault) (refused_config c.args.arguments.form c.in-Ok-Refused.fault) c.refused_config.result c.refuse-status.result next.2
    (subst (IsFirstLine (line_or_empty next.0)) c.in-Ok-Refused.field-0-is (c.in-Ok-Refused.ensures next.0 next.1))
    refl c.refused_config.ensures c.refuse-status.ensures

pub returns-in-Ok-TooLong : goal.returns-in-Ok-TooLong
returns-in-Ok-TooLong g c =
    let next = read_as_first (g.I.Read.remaining c.args.input.now) (g.I.Read.remaining c.next_line.new.input) c.in-Ok.line c.in-Ok.ensures in
    refusal_told c.args.arguments (g.I.Read.remaining c.args.input.now) (g.O.Write.contents c.args.out.now) (g.O.Write.contents c.refuse-status-in-Ok-TooLong.new.out) next.0 (g.I.Read.remaining c.next_line.new.input)
    first_line.TooLong (refused_script c.args.arguments.form first_line_too_large) c.refused_script.result c.refuse-status-in-Ok-TooLong.result next.2
    (subst (IsFirstLine (line_or_empty next.0)) c.in-Ok-TooLong.field-0-is (c.in-Ok-TooLong.ensures next.0 next.1))
    refl c.refused_script.ensures c.refuse-status-in-Ok-TooLong.ensures

pub returns : goal.returns
returns g c = IsLive.not_begun no_memory (keeps_same (g.O.Write.contents c.args.out.now))
