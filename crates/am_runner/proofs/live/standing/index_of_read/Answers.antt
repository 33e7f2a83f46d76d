use Rattle.std.proofs.Common.{◌≡◌, ◌∙◌, true, length, sym, subst, rules, arith}
use Rattle.std.specs.Str.{bytes_eq}
use Rattle.am_runner.proofs.Named.{first_is, none_is}
use Rattle.am_runner.specs.declared.live.standing.StandingRead.{StandingRead}
use Rattle.am_runner.proofs.live.standing.index_of_read.Goals as goal

pub returns-then-eq : goal.returns-then-eq
returns-then-eq c =
    first_is (λ (one : StandingRead). bytes_eq one.name c.args.name.now) c.args.reads.now c.loop-index.index c.index-reads-index.result c.loop-index.invariant c.loop-index-test.true c.index-reads-index.is
    (subst (λ (one : StandingRead). bytes_eq one.name c.args.name.now ≡ true) (sym c.index-reads-index.is) (sym c.eq.ensures ∙ c.if-eq.true))

pub returns : goal.returns
returns c =
    let whole : c.loop-index.index ≡ length c.args.reads.now = search rules in
    none_is (λ (one : StandingRead). bytes_eq one.name c.args.name.now) c.args.reads.now c.loop-index.index c.loop-index.invariant whole
