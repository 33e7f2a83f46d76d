use Rattle.std.proofs.Common.{◌⊎◌, ◌+◌, ◌<◌, ◌≤◌, ◌++◌, [], List, ℕ, length, inl, inr, ap, ◌∙◌, append-nil, arith}
use Rattle.std.proofs.Math.Logic.{⊎_elim}
use Rattle.am_script.specs.declared.limits.TheConstants.{LONGEST_LINE, MOST_LINES}
use Rattle.am_script.proofs.Counting.{excess_now, counted_open, counted_ended}
use Rattle.am_script.proofs.line_counter.LineCounter.take_line.Goals as goal
use Rattle.am_script.proofs.line_counter.LineCounter.take_line.Goals.{then-part-line, else-part-line}

pub returns-then-ended-ge-MOST_LINES : goal.returns-then-ended-ge-MOST_LINES
returns-then-ended-ge-MOST_LINES c =
    let line = c.args.line.now in
    let part = c.without_line_feed-part in
    let grown = c.in_ok-extend_from_slice.ensures.items in
    let above : (MOST_LINES ≤ c.self.inside.ended) ⊎ (LONGEST_LINE < c.self.inside.last + length part.result.now) =
    ⊎_elim (λ many. inl (omega arith)) (λ long. inr (omega arith)) c.then-ended-ge-MOST_LINES.either in (
      excess_now _ line part.result.now _ _ _ c.self.invariant part.ensures grown above,
      (line, [], append-nil line, grown ∙ ap (λ (front : List ℕ). front ++ line) c.self.view_is),
    )

pub invariant_of-result : goal.invariant_of-result
invariant_of-result c =
    let line = c.args.line.now in
    let part = c.without_line_feed-part in
    let grown = c.in_ok-extend_from_slice.ensures.items in
    let few = c.if-ended-ge-MOST_LINES.false in
    let short = c.if-size-gt-LONGEST_LINE.false in
    elim c.if-part-line.branch [
      | then-part-line w ↦ rw w.ended-is (counted_ended _ line part.result.now _ _ _ c.self.invariant part.ensures grown few short w.if-part-line.true)
      | else-part-line w ↦ rw w.ended-is (counted_open _ line part.result.now _ _ _ c.self.invariant part.ensures grown few short w.if-part-line.false)
    ]
