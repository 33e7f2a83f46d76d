use Rattle.std.proofs.Common.{◌≡◌, ◌∙◌, ◌++◌, drop, string_bytes, ap, sym, arith}
use Rattle.am_answers.specs.Showing.{kept_text}
use Rattle.am_answers.proofs.Runs.{kept_passed}
use Rattle.am_answers.proofs.showing.write_runs.Goals as goal
use Rattle.am_answers.proofs.showing.write_runs.Goals.{then-before-gt0, else-before-gt0+in_ok-before}

pub loop-index-preserved : goal.loop-index-preserved
loop-index-preserved c =
    let places = c.args.places.now in
    let index = c.loop-index.index in
    elim c.if-before-gt0.branch [
      | then-before-gt0 w ↦
          let passed = kept_passed c.args.number index c.loop-index.before places c.loop-index-test.true w.if-before-gt0.true in
          rw w.text-is (rw w.before-is (ap (λ l. string_bytes c.loop-index.text ++ l) (sym passed) ∙ c.loop-index.invariant))
      | else-before-gt0+in_ok-before w ↦
          let none : c.loop-index.before ≡ 0 = omega (arith, w.if-before-gt0.false) in
          rw w.text-is (rw w.before-is (w.in_ok-before.ensures ∙ ap (λ n. string_bytes c.loop-index.text ++ kept_text c.args.number index n (drop index places)) (sym none) ∙ c.loop-index.invariant))
    ]
