use Rattle.std.proofs.Common.{rules, ◌≡◌, ◌∙◌, ◌++◌, ◌+◌, ◌∷◌, Some, None, drop, string_bytes, ap, append_assoc, sym}
use Rattle.std.proofs.lemmas.List.{drop_more}
use Rattle.am_script.specs.JsonLines.{about_line, object_line}
use Rattle.am_answers.specs.Showing.{kept_members, kept_text, run_from}
use Rattle.am_answers.proofs.Runs.{from_start}
use Rattle.am_answers.proofs.showing.write_run.Goals as goal

pub returns : goal.returns
returns c =
    let places = c.args.places.now in
    let index = c.args.index in
    let from = c.in-Some.from in
    let rest = drop (index + 1) places in
    let number = c.args.number in
    let count = c.count_run-before.result in
    let here : drop index places ≡ Some from ∷ rest = drop_more places index None c.requires ∙ ap (λ p. p ∷ rest) (search rules) in
    let run : count ≡ run_from (from + 1) rest = c.count_run-before.ensures.run ∙ ap (run_from (from + 1)) (from_start (index + 1) places) in
    ap (λ t. t ++ kept_text number (index + 1) count rest) c.in_ok-write_kept_run.ensures
    ∙ (append_assoc (string_bytes c.args.text.now) (object_line (about_line number (kept_members index from (count + 1)))) (kept_text number (index + 1) count rest)
    ∙ (ap (λ k. string_bytes c.args.text.now ++ (object_line (about_line number (kept_members index from (k + 1))) ++ kept_text number (index + 1) k rest)) run
    ∙ ap (λ l. string_bytes c.args.text.now ++ kept_text number index 0 l) (sym here)))
