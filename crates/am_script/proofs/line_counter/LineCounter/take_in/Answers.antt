use Rattle.std.proofs.Common.{◌++◌, List, ℕ, ◌∙◌, sym, ap, append_assoc}
use Rattle.am_script.proofs.Inputs.{part_taken, part_added}
use Rattle.am_script.proofs.line_counter.LineCounter.take_in.Goals as goal

pub returns-in-Full : goal.returns-in-Full
returns-in-Full c =
    let so_far = c.loop-rest.invariant in
    let others = c.first_line.result.1.now in
    let full = rw c.in-Full.is at c.in_ok-more.ensures in
    let taken = full.1.0 in
    let left = full.1.1 in
    let line = sym (append_assoc taken left others) ∙ (ap (λ (bytes : List ℕ). bytes ++ others) full.1.2 ∙ c.first_line.ensures.parts) in (
      full.0,
      (
        so_far.0 ++ taken,
        left ++ others,
        part_taken so_far.0 _ taken (left ++ others) _ so_far.1 line,
        part_added _ _ so_far.0 taken _ so_far.2 full.1.3,
      ),
    )

pub loop-rest-preserved : goal.loop-rest-preserved
loop-rest-preserved c =
    let so_far = c.loop-rest.invariant in (
      so_far.0 ++ c.first_line.result.0.now,
      part_taken so_far.0 _ _ _ _ so_far.1 c.first_line.ensures.parts,
      part_added _ _ so_far.0 _ _ so_far.2 (rw c.in-More.is at c.in_ok-more.ensures),
    )
