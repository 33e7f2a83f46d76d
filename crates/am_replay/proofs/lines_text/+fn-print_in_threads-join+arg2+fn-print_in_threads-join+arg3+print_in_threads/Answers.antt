use Rattle.std.proofs.Common.{◌≡◌, ◌+◌, ◌++◌, ◌∙◌, IfOk, Ok, Result, String, ap, arith, length, rules, string_bytes, subst}
use Rattle.std.specs.declared.alloc.AllocError.{AllocError}
use Rattle.std.specs.declared.alloc.Global.{Global}
use Rattle.std.proofs.lemmas.List.{length-append}
use Rattle.std.proofs.lemmas.Result.{MatchResult-weaker}
use Rattle.am_replay.specs.inside.PartTexts.{CanCount, PrintsLines}
use Rattle.am_replay.proofs.PartTexts.{fewer, halves_printed}
use Rattle.am_replay.proofs.lines_text.+fn-print_in_threads-join+arg2+fn-print_in_threads-join+arg3+print_in_threads.Goals as goal

pub join-text-requires-after_bounds : goal.join-text-requires-after_bounds
join-text-requires-after_bounds g t c κs within =
    let lines = c.args.lines.now in
    let front = c.split_at.result.0.now in
    let back = c.split_at.result.1.now in
    let whole : lines ≡ front ++ back = search rules in
    let long : length lines ≡ length front + length back = ap length whole ∙ length-append front back in
    let here : CanCount (length front) c.args.before = fewer (length lines) (length front) c.args.before (omega (arith, long)) c.requires in
    let there : CanCount (length back) c.add_all.new.self = c.add_all.ensures.room (length back) (fewer (length lines) (length back + length front) c.args.before (omega (arith, long)) c.requires) in
    search (rules, arith)

pub returns : goal.returns
returns g t c =
    let form = c.args.form in
    let answers = c.args.answers.now in
    let counted = c.args.before in
    let middle = c.add_all.new.self in
    let front = c.split_at.result.0.now in
    let back = c.split_at.result.1.now in
    let whole : c.args.lines.now ≡ front ++ back = search rules in
    let one : PrintsLines form answers counted front (string_bytes c.in_ok-text.field-0) =
    subst (λ (r : Result (String Global) AllocError). IfOk r (λ text. PrintsLines form answers counted front (string_bytes text))) {y = Ok c.in_ok-text.field-0} (search rules) c.join-text.ensures.first in
    let other : PrintsLines form answers middle back (string_bytes c.in_ok-rest.field-0) =
    subst (λ (r : Result (String Global) AllocError). IfOk r (λ text. PrintsLines form answers middle back (string_bytes text))) {y = Ok c.in_ok-rest.field-0} (search rules) c.join-text.ensures.second in
    MatchResult-weaker c.joined.result c.joined.ensures
    (λ text both. halves_printed form answers c.args.lines.now front back counted middle whole one c.add_all.ensures.counts other both) (λ fault none. tt)
