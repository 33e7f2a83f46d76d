use Rattle.std.proofs.Common.{◌+◌, ◌∙◌, ℕ, List, Some, refl, subst}
use Rattle.std.specs.Io.KnownBytes.{Appends}
use Rattle.am_runner.specs.Sessions.{setting_of}
use Rattle.am_runner.specs.live.Answering.{Answers}
use Rattle.am_runner.specs.live.Serving.{IsBeginning}
use Rattle.am_runner.specs.live.Reading.{IsNextAs}
use Rattle.am_runner.proofs.live.OneByOne.{in_part, in_part_so, on_err_of, so_far_more, so_far_compacted, so_far_none}
use Rattle.am_runner.proofs.live.serving.serve.Goals as goal

pub loop-number-init : goal.loop-number-init
loop-number-init g c = (refl, so_far_none c.args.context.now.config _ c.args.form c.args.first c.args.run.now (g.I.Read.remaining c.args.input.now) (g.O.Write.contents c.args.out.now))

pub returns-in_err-line-clause-err : goal.returns-in_err-line-clause-err
returns-in_err-line-clause-err g c =
    on_err_of c.from_residual.result
    (in_part_so c.args.context.now.config _ c.args.form c.args.first c.args.run.now (g.I.Read.remaining c.args.input.now) (g.O.Write.contents c.args.out.now) c.loop-number.number c.loop-number.run (g.I.Read.remaining c.loop-number.input) (g.O.Write.contents c.loop-number.out) c.loop-number.invariant.1)

pub returns-in_err-serve_line-clause-err : goal.returns-in_err-serve_line-clause-err
returns-in_err-serve_line-clause-err g c =
    let next : IsNextAs (g.I.Read.remaining c.loop-number.input) (Some c.in-Some.line) (g.I.Read.remaining c.next_line.new.input) = rw c.in-Some.is at c.in_ok-line.ensures in
    let part = subst (λ context. (beginning : List ℕ) × IsBeginning context.config (setting_of g.N.Recorded.places g.N.Recorded.policy context.provider.now.resolve_timeout) c.args.form c.loop-number.number c.loop-number.run beginning × Appends (g.O.Write.contents c.loop-number.out) (g.O.Write.contents c.serve_line.new.out) beginning) c.loop-number.invariant.0 (c.in_err-serve_line.ensures.err next.0 next.2) in
    on_err_of c.from_residual-in_err-serve_line.result
    (in_part c.args.context.now.config _ c.args.form c.args.first c.args.run.now (g.I.Read.remaining c.args.input.now) (g.O.Write.contents c.args.out.now) c.loop-number.number c.loop-number.run (g.I.Read.remaining c.loop-number.input)
    (g.O.Write.contents c.loop-number.out) (g.O.Write.contents c.serve_line.new.out) part.0 c.loop-number.invariant.1 part.1 part.2)

pub loop-number-preserved : goal.loop-number-preserved
loop-number-preserved g c =
    let next : IsNextAs (g.I.Read.remaining c.loop-number.input) (Some c.in-Some.line) (g.I.Read.remaining c.next_line.new.input) = rw c.in-Some.is at c.in_ok-line.ensures in
    let answered = subst (λ context. (more : List ℕ) × Answers context.config (setting_of g.N.Recorded.places g.N.Recorded.policy context.provider.now.resolve_timeout) c.args.form c.loop-number.number next.0 c.loop-number.run more c.serve_line.new.run × Appends (g.O.Write.contents c.loop-number.out) (g.O.Write.contents c.serve_line.new.out) more) c.loop-number.invariant.0 (c.in_ok-serve_line.ensures.answers next.0 next.2) in
    let so = so_far_more c.args.context.now.config _ c.args.form c.args.first c.args.run.now (g.I.Read.remaining c.args.input.now) (g.O.Write.contents c.args.out.now) c.loop-number.number c.loop-number.run c.serve_line.new.run
    (g.I.Read.remaining c.loop-number.input) (g.I.Read.remaining c.next_line.new.input) (g.O.Write.contents c.loop-number.out) (g.O.Write.contents c.serve_line.new.out) next.0 answered.0 c.loop-number.invariant.1 next.3 answered.1 answered.2 in (
      c.in_ok-serve_line.ensures.same ∙ c.loop-number.invariant.0,
      so_far_compacted c.args.context.now.config _ c.args.form c.args.first c.args.run.now (g.I.Read.remaining c.args.input.now) (g.O.Write.contents c.args.out.now) (c.loop-number.number + 1) c.serve_line.new.run c.compact_if_due.new.self
          (g.I.Read.remaining c.next_line.new.input) (g.O.Write.contents c.serve_line.new.out) so (c.compact_if_due.ensures c.args.context.now.config _),
    )

pub returns-clause-err : goal.returns-clause-err
returns-clause-err g c =
    in_part_so c.args.context.now.config _ c.args.form c.args.first c.args.run.now (g.I.Read.remaining c.args.input.now) (g.O.Write.contents c.args.out.now) c.loop-number.number c.loop-number.run (g.I.Read.remaining c.loop-number.input) (g.O.Write.contents c.loop-number.out) c.loop-number.invariant.1
