use Rattle.std.proofs.Common.{ap, length, sym, ◌∙◌}
use Rattle.std.proofs.Math.Seq.{take-length}
use Rattle.am_script.specs.Script.{lines_of}
use Rattle.am_script.proofs.SingleLines.{line_to_feed, whole_line}
use Rattle.am_script.proofs.line_counter.first_line.Goals as goal

pub returns-in-Some-clause-line : goal.returns-in-Some-clause-line
returns-in-Some-clause-line c =
    ap (λ l. length (lines_of l)) c.split_at.ensures.front
    ∙ ap length (line_to_feed c.args.bytes.now c.in-Some.end (sym c.line_feed.ensures ∙ c.in-Some.is))

pub returns-in-None-clause-line : goal.returns-in-None-clause-line
returns-in-None-clause-line c =
    ap (λ l. length (lines_of l)) (c.split_at-in-None.ensures.front ∙ take-length c.args.bytes.now)
    ∙ ap length (whole_line c.args.bytes.now c.requires (sym c.line_feed.ensures ∙ c.in-None.is))
