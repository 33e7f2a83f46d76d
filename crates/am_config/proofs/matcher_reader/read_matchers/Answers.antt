use Rattle.std.proofs.Common.{◌<◌, ◌≤◌, ◌∙◌, Ok, Err, ℕ, List, ap, sym, subst, get_or, length, arith}
use Rattle.std.proofs.lemmas.Result.{err_from_is_err_and}
use Rattle.am_matchers.specs.Matchers.{MatcherView}
use Rattle.am_config.specs.MatcherReadings.{matchers_of}
use Rattle.am_config.specs.Readings.{AllowsResult}
use Rattle.am_config.proofs.Readings.{read_at, refused_at, read_all}
use Rattle.am_config.proofs.matcher_reader.read_matchers.Goals as goal

pub loop-i-preserved : goal.loop-i-preserved
loop-i-preserved c =
    let texts = c.args.texts.now in
    let i = c.loop-i.i in
    let same = c.as_slice-text-items.ensures in
    let inside : i < length texts = omega (arith, ap length same) in
    read_at _ texts c.loop-i.matchers.items _ c.in_ok-read_matcher.field-0 i c.as_str.result.now c.text-item.result inside
    (c.as_str.ensures ∙ c.text-item.is ∙ ap (λ (list : List (List ℕ)). get_or list i c.text-item.result) same)
    c.in_ok-read_matcher.ensures c.in_ok-push.ensures.items c.loop-i.invariant

pub returns-in_err-read_matcher : goal.returns-in_err-read_matcher
returns-in_err-read_matcher c =
    let p = err_from_is_err_and c.from_residual-in_err-read_matcher.result c.from_residual-in_err-read_matcher.ensures.1 in
    let texts = c.args.texts.now in
    let i = c.loop-i.i in
    let same = c.as_slice-text-items.ensures in
    let inside : i < length texts = omega (arith, ap length same) in
    refused_at _ texts c.loop-i.matchers.items i c.as_str.result.now c.text-item.result c.in_err-read_matcher.field-0.0 _ inside
    (c.as_str.ensures ∙ c.text-item.is ∙ ap (λ (list : List (List ℕ)). get_or list i c.text-item.result) same)
    c.loop-i.invariant c.in_err-read_matcher.ensures (p.1 ∙ ap Err p.2)

pub returns : goal.returns
returns c =
    let past : length c.args.texts.now ≤ c.loop-i.i = omega (arith, ap length c.as_slice-text-items.ensures) in
    subst (λ (made : List MatcherView). AllowsResult (matchers_of c.args.path.now c.args.texts.now) (Ok made)) (sym c.new.ensures)
    (read_all _ c.args.texts.now c.loop-i.matchers.items c.loop-i.i past c.loop-i.invariant)
