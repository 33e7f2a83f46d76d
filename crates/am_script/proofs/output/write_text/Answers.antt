use Rattle.std.proofs.Common.{ℕ, List, ◌++◌, take, ap, ◌∙◌, append_assoc}
use Rattle.std.proofs.lemmas.List.{take-append-drop}
use Rattle.am_script.proofs.Outputs.{appends_more}
use Rattle.am_script.proofs.output.write_text.Goals as goal

pub loop-rest-preserved : goal.loop-rest-preserved
loop-rest-preserved g c =
    let so_far = c.loop-rest.invariant in
    let taken = take c.in-Ok.count c.loop-rest.rest.now in (
      so_far.0 ++ taken,
      appends_more _ _ _ _ _ so_far.1 c.in-Ok.ensures.written,
      append_assoc so_far.0 taken c.split_at.result.1.now
          ∙ (ap (λ (bytes : List ℕ). so_far.0 ++ bytes) (ap (λ (bytes : List ℕ). taken ++ bytes) c.split_at.ensures.back ∙ take-append-drop c.in-Ok.count c.loop-rest.rest.now)
          ∙ so_far.2),
    )
