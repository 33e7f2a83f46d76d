use Rattle.std.proofs.Common.{rules, ◌≡◌, Some, subst}
use Rattle.am_runner.specs.declared.live.reading.InputLine.TheVariants.{TooLong}
use Rattle.am_replay.specs.Live.{IsFirstAs}
use Rattle.am_replay.proofs.Lives.{first_too_long}
use Rattle.am_replay.proofs.live.read_first.Goals as goal

pub returns-in-Some-TooLong : goal.returns-in-Some-TooLong
returns-in-Some-TooLong c = λ bytes read.
    let long : c.args.line.now ≡ Some TooLong = search rules in
    first_too_long bytes (subst (IsFirstAs bytes) long read)
