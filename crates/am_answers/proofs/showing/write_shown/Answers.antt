use Rattle.std.proofs.Common.{◌≡◌, ◌∙◌, ◌++◌, ◌+◌, ◌∷◌, ℕ, List, Option, drop, string_bytes, ap, subst, sym, arith}
use Rattle.std.proofs.lemmas.List.{drop-drop}
use Rattle.std.specs.Option.{option_copied}
use Rattle.am_answers.specs.Showing.{shown_text}
use Rattle.am_answers.proofs.Runs.{from_index, from_start, shown_passed}
use Rattle.am_answers.proofs.showing.write_shown.Goals as goal
use Rattle.am_answers.proofs.showing.write_shown.Goals.{then-before-gt0, else-before-gt0+in_ok-before}

pub loop-index-preserved : goal.loop-index-preserved
loop-index-preserved c =
    let given = c.args.given.now in
    let places = c.args.places.now in
    let index = c.loop-index.index in
    let name = option_copied c.args.name in
    elim c.if-before-gt0.branch [
      | then-before-gt0 w ↦
          let passed = shown_passed c.args.number name index c.loop-index.before given places c.loop-index-test.true c.requires w.if-before-gt0.true in
          rw w.text-is (rw w.before-is (ap (λ l. string_bytes c.loop-index.text ++ l) (sym passed) ∙ c.loop-index.invariant))
      | else-before-gt0+in_ok-before w ↦
          let none : c.loop-index.before ≡ 0 = omega (arith, w.if-before-gt0.false) in
          let one = w.index-given-index.result in
          let whole : drop index given ≡ one ∷ drop (index + 1) given = from_index given index one c.loop-index-test.true w.index-given-index.is in
          let slice = from_start index places in
          let so = subst (λ (l : List (Option ℕ)). string_bytes w.write_from.new.text ++ shown_text c.args.number name w.in_ok-before.before (drop (index + 1) given) (drop 1 l)
          ≡ string_bytes c.loop-index.text ++ shown_text c.args.number name 0 (one ∷ drop (index + 1) given) l) slice (w.in_ok-before.ensures (drop (index + 1) given)) in
          rw w.text-is (rw w.before-is
          (ap (λ l. string_bytes w.write_from.new.text ++ shown_text c.args.number name w.in_ok-before.before (drop (index + 1) given) l) (sym (drop-drop 1 index places))
          ∙ (so ∙ (ap (λ l. string_bytes c.loop-index.text ++ shown_text c.args.number name 0 l (drop index places)) (sym whole)
          ∙ (ap (λ n. string_bytes c.loop-index.text ++ shown_text c.args.number name n (drop index given) (drop index places)) (sym none) ∙ c.loop-index.invariant)))))
    ]
