use Rattle.std.proofs.Common.{◌+◌, ◌++◌, List, length, sym, subst, take, rules, arith}
use Rattle.std.proofs.lemmas.List.{take_all}
use Rattle.am_script.specs.declared.command.Line.{Line}
use Rattle.am_replay.specs.inside.PartTexts.{CountsOwn}
use Rattle.am_replay.proofs.PartTexts.{fewer, one_taken}
use Rattle.am_replay.proofs.line_counts.LineCounts.add_all.Goals as goal

pub add-requires : goal.add-requires
add-requires c =
    let at = c.loop-line.line-index in
    c.loop-line.invariant.1 1 (fewer (length c.args.lines.now) (1 + at) c.args.self.now (omega (arith, c.loop-line-test.true)) c.requires)

pub loop-line-preserved : goal.loop-line-preserved
loop-line-preserved c =
    let lines = c.args.lines.now in
    let at = c.loop-line.line-index in (
      λ before so_far. subst (λ (all : List Line). CountsOwn all c.add.new.self) (sym (one_taken before lines at c.line-item.result c.loop-line-test.true (search rules)))
          (c.add.ensures.counts (before ++ take at lines) (c.loop-line.invariant.0 before so_far)),
      λ more room. c.add.ensures.room more (c.loop-line.invariant.1 (more + 1) (fewer (more + (at + 1)) (more + 1 + at) c.args.self.now (omega arith) room)),
    )

pub returns-clause-counts : goal.returns-clause-counts
returns-clause-counts c before so_far =
    subst (λ (front : List Line). CountsOwn (before ++ front) c.loop-line.self) (take_all c.loop-line.line-index c.args.lines.now (omega (arith, c.loop-line-test.false)))
    (c.loop-line.invariant.0 before so_far)

pub returns-clause-room : goal.returns-clause-room
returns-clause-room c more room =
    c.loop-line.invariant.1 more (fewer (more + length c.args.lines.now) (more + c.loop-line.line-index) c.args.self.now (omega (arith, c.loop-line.auto.line-index-end)) room)
