use Rattle.std.proofs.Common.{◌≡◌, ◌∙◌, length, sym, rules, arith}
use Rattle.std.specs.Str.{bytes_eq}
use Rattle.am_runner.specs.Reading.{OpenView}
use Rattle.am_runner.proofs.Named.{none_more, first_is, none_is}
use Rattle.am_runner.proofs.session.index_named.Goals as goal

pub loop-index-init : goal.loop-index-init
loop-index-init g c = λ k other below. absurd (omega (arith, below))

pub returns-then-has_name : goal.returns-then-has_name
returns-then-has_name g c =
    first_is (λ (one : OpenView). bytes_eq one.name c.args.name.now) c.args.opened.now c.loop-index.index c.index-opened-index.result c.loop-index.invariant c.loop-index-test.true c.index-opened-index.is
    (sym c.has_name.ensures ∙ c.if-has_name.true)

pub loop-index-preserved : goal.loop-index-preserved
loop-index-preserved g c =
    none_more (λ (one : OpenView). bytes_eq one.name c.args.name.now) c.args.opened.now c.loop-index.index c.index-opened-index.result c.loop-index.invariant c.loop-index-test.true c.index-opened-index.is
    (sym c.has_name.ensures ∙ c.if-has_name.false)

pub returns : goal.returns
returns g c =
    let whole : c.loop-index.index ≡ length c.args.opened.now = search rules in
    none_is (λ (one : OpenView). bytes_eq one.name c.args.name.now) c.args.opened.now c.loop-index.index c.loop-index.invariant whole
