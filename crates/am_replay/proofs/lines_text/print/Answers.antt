use Rattle.std.proofs.Common.{◌≡◌, ◌+◌, ◌++◌, ◌∙◌, List, get_or, length, string_bytes, sym, subst, take, rules, arith}
use Rattle.am_answers.specs.Forms.{answers_printed}
use Rattle.am_script.specs.declared.command.Line.{Line}
use Rattle.am_replay.specs.Printing.{own_lines}
use Rattle.am_replay.specs.inside.PartTexts.{CountsOwn}
use Rattle.am_replay.proofs.PartTexts.{fewer, one_more_written, one_taken}
use Rattle.am_replay.proofs.lines_text.print.Goals as goal

pub add-requires : goal.add-requires
add-requires c =
    let at = c.loop-line.line-index in
    c.loop-line.invariant.1 1 (fewer (length c.args.lines.now) (1 + at) c.args.before (omega (arith, c.loop-line-test.true)) c.requires)

pub loop-line-preserved : goal.loop-line-preserved
loop-line-preserved c =
    let lines = c.args.lines.now in
    let at = c.loop-line.line-index in
    let line = c.line-item.result in
    let is : line ≡ get_or lines at line = search rules in
    let printed : string_bytes c.write_answers.new.text ≡ string_bytes c.loop-line.text ++ answers_printed c.args.form line.number c.given_at-given.result.now = search rules in (
      λ before so_far. subst (λ (all : List Line). CountsOwn all c.add.new.self) (sym (one_taken before lines at line c.loop-line-test.true is))
          (c.add.ensures.counts (before ++ take at lines) (c.loop-line.invariant.0 before so_far)),
      λ more room. c.add.ensures.room more (c.loop-line.invariant.1 (more + 1) (fewer (more + (at + 1)) (more + 1 + at) c.args.before (omega arith) room)),
      λ before so_far.
          let counted : c.of.result ≡ own_lines line.thread (before ++ take at lines) = c.of.ensures.value ∙ c.loop-line.invariant.0 before so_far line.thread c.of.ensures.thread in
          one_more_written c.args.form c.args.answers.now before lines at c.of.result line _ _ _ c.loop-line-test.true is c.given_at-given.ensures counted printed
          ∙ c.loop-line.invariant.2 before so_far,
    )
