use Rattle.std.proofs.Common.{rules, ◌≡◌, ◌∙◌, sym, ap, subst}
use Rattle.am_command_line.specs.declared.status.Status.TheVariants.{OutOfMemory}
use Rattle.am_runner.specs.Sessions.{setting_of}
use Rattle.sinnoraku.specs.Runs.{IsDriven}
use Rattle.am_replay.specs.Live.{LivesUnder, is_following}
use Rattle.am_replay.proofs.Lives.{counts_told, failed_so, lived_so, same_setting}
use Rattle.am_replay.proofs.Replays.{keeps_same}
use Rattle.am_replay.proofs.live.live_under.Goals as goal

pub returns-in-Ok-Ok-default : goal.returns-in-Ok-Ok-default
returns-in-Ok-Ok-default g c =
    let a = c.args.arguments in
    let config = c.args.config.now in
    let setting = setting_of a.places a.full config.resolve_timeout in
    let follows = is_following a.mode in
    let limits = c.resolve_timeout-limits.result in
    let places : limits.places ≡ a.places = search rules in
    let policy : limits.policy ≡ a.full = search rules in
    let timeout : limits.resolve_timeout ≡ config.resolve_timeout = search rules in
    let callers : limits.callers ≡ 1 = search rules in
    let driven : IsDriven _ _ _ = c.in-Ok-Ok-default.ensures.driven in
    let after = c.run_driver-ran.new.driver in
    let input = g.I.Read.remaining c.args.input.now in
    let out = g.O.Write.contents c.args.out.now in
    let lived = lived_so config setting (setting_of limits.places limits.policy limits.resolve_timeout) a.form follows input (g.I.Read.remaining after.input.now) out (g.O.Write.contents after.out.now) driven.passes driven.fronts c.in-Ok-Ok-default.settled c.counts.result c.in-Ok-Ok-default.field-0-0 c.in-Ok-Ok-default.field-0-0-0
    (same_setting a.places limits.places a.full limits.policy config.resolve_timeout limits.resolve_timeout places policy timeout) c.in-Ok-Ok-default.field-0-0-is driven.comes_to.1 driven.settled (λ one. driven.complete (one ∙ sym callers))
    (record { places = c.counts.ensures.places; posts = c.counts.ensures.posts; stored = c.counts.ensures.stored }) in
    let same = sym driven.comes_to.0 in
    subst (λ written. LivesUnder setting a.form follows config input out c.print_counts.result (g.O.Write.contents written)) (search (rules, same))
    (counts_told setting a.form follows config input (g.I.Read.remaining after.input.now) out (g.O.Write.contents after.out.now) (g.O.Write.contents c.print_counts.new.out) c.counts.result c.print_counts.result lived c.print_counts.ensures)

pub returns-in-Ok-Err-default : goal.returns-in-Ok-Err-default
returns-in-Ok-Err-default g c =
    let a = c.args.arguments in
    let config = c.args.config.now in
    let setting = setting_of a.places a.full config.resolve_timeout in
    let follows = is_following a.mode in
    let limits = c.resolve_timeout-limits.result in
    let places : limits.places ≡ a.places = search rules in
    let policy : limits.policy ≡ a.full = search rules in
    let timeout : limits.resolve_timeout ≡ config.resolve_timeout = search rules in
    let driven : IsDriven _ _ _ = c.in-Ok-Err-default.ensures.driven in
    let after = c.run_driver-ran.new.driver in
    let input = g.I.Read.remaining c.args.input.now in
    let out = g.O.Write.contents c.args.out.now in
    let same = sym driven.comes_to.0 in
    subst (λ written. LivesUnder setting a.form follows config input out c.status_of.result (g.O.Write.contents written)) (search (rules, same))
    (failed_so config setting (setting_of limits.places limits.policy limits.resolve_timeout) a.form follows input (g.I.Read.remaining after.input.now) out (g.O.Write.contents after.out.now) driven.passes driven.fronts c.status_of.result c.in-Ok-Err-default.field-0-0 c.in-Ok-Err-default.failure
    (same_setting a.places limits.places a.full limits.policy config.resolve_timeout limits.resolve_timeout places policy timeout) c.in-Ok-Err-default.field-0-0-is driven.comes_to.1 c.status_of.ensures)

pub returns-in-Err : goal.returns-in-Err
returns-in-Err g c =
    let a = c.args.arguments in
    let config = c.args.config.now in
    let kept = c.in-Err.ensures.refused in
    let same = sym (ap (λ driver. driver.out.ghost_name) kept) in
    let then = sym (ap (λ driver. driver.out.now) kept) in
    subst (λ written. LivesUnder (setting_of a.places a.full config.resolve_timeout) a.form (is_following a.mode) config (g.I.Read.remaining c.args.input.now) (g.O.Write.contents c.args.out.now) OutOfMemory (g.O.Write.contents written))
    (search (rules, same, then)) (LivesUnder.not_begun (keeps_same (g.O.Write.contents c.args.out.now)))
